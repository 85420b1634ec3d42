use Rattle.std.proofs.Common.{◌≡◌, ◌++◌, replicate}
use Rattle.run_script.proofs.states.push_run.Given as goal

abbrev pub invariant-loop : goal.invariant-loop
invariant-loop l = l.plays ≡ l.initial.plays ++ replicate l.counter l.run.node
