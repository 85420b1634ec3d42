use Rattle.std.proofs.Common.{◌≡◌, take}
use Rattle.core_space.specs.Filling.{with_used}
use Rattle.core_space.proofs.bits.with_used.Given as goal

abbrev pub invariant-loop-n : goal.invariant-loop-n
invariant-loop-n l = l.block ≡ with_used l.index (take l.n-index l.numbers)
