use Rattle.std.proofs.Common.{◌≡◌, ◌++◌, drop}
use Rattle.run_script.specs.Spelling.{plays_of}
use Rattle.run_script.proofs.states.push_runs.Given as goal

abbrev pub invariant-loop-run : goal.invariant-loop-run
invariant-loop-run l = l.plays ++ plays_of (drop l.run-index l.runs) ≡ l.initial.plays ++ plays_of l.runs
