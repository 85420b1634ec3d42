use Rattle.std.proofs.Common.{◌≡◌, ◌++◌, take}
use Rattle.op_law.specs.Headers.{slots_freed}
use Rattle.op_steps.proofs.slots.push_slots.Given as goal

abbrev pub invariant-loop-slot : goal.invariant-loop-slot
invariant-loop-slot l = l.writes ≡ l.fn.writes ++ take l.slot-index (slots_freed l.g l.stage l.clusters l.numbers l.slots)
