use Rattle.std.proofs.Common.{◌≡◌, ◌+◌, drop, length}
use Rattle.run_script.specs.Spelling.{plays_of}
use Rattle.run_script.proofs.states.has_room.Given as goal

abbrev pub invariant-loop-run : goal.invariant-loop-run
invariant-loop-run l = l.left + (l.plays + length (plays_of l.runs)) ≡ 65536 + length (plays_of (drop l.run-index l.runs))
