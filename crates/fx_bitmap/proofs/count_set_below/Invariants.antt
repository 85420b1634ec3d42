use Rattle.std.proofs.Common.{◌≡◌}
use Rattle.fx_bitmap.specs.Bits.{bit_at, count_below}
use Rattle.fx_bitmap.proofs.count_set_below.Given as goal

abbrev pub invariant-loop-i : goal.invariant-loop-i
invariant-loop-i l = l.count ≡ count_below (bit_at l.b) l.i
