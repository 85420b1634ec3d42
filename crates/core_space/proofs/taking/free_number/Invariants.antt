use Rattle.std.proofs.Common.{◌≡◌, ◌-◌, None}
use Rattle.std.specs.Prelude.{not, find}
use Rattle.std.specs.List.{range_with_len}
use Rattle.fx_bitmap.specs.Bits.{bit_at}
use Rattle.core_space.proofs.taking.free_number.Given as goal

abbrev pub invariant-loop-n : goal.invariant-loop-n
invariant-loop-n l = find (λ m. not (bit_at l.index (m - 1))) (range_with_len 1 (l.n - 1)) ≡ None
