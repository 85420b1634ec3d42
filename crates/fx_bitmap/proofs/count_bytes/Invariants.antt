use Rattle.std.proofs.Common.{◌≡◌, ◌*◌}
use Rattle.fx_bitmap.specs.Bits.{bit_at, count_below}
use Rattle.fx_bitmap.proofs.count_bytes.Given as goal

abbrev pub invariant-loop-k : goal.invariant-loop-k
invariant-loop-k l = l.count ≡ count_below (bit_at l.b) (8 * l.k)
