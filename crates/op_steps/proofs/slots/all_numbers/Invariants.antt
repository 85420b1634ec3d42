use Rattle.std.proofs.Common.{◌≡◌, ◌∷◌, take}
use Rattle.op_law.specs.Headers.{slots_seen}
use Rattle.op_steps.proofs.slots.all_numbers.Given as goal

abbrev pub invariant-loop-slot : goal.invariant-loop-slot
invariant-loop-slot l = l.numbers ≡ l.f.num ∷ slots_seen l.g (take l.slot-index l.f.rest.now)
