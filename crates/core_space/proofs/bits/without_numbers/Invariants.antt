use Rattle.std.proofs.Common.{◌≡◌, take}
use Rattle.op_law.specs.Freeing.{without_numbers}
use Rattle.core_space.proofs.bits.without_numbers.Given as goal

abbrev pub invariant-loop-n : goal.invariant-loop-n
invariant-loop-n l = l.block ≡ without_numbers l.index (take l.n-index l.numbers)
