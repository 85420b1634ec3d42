use Rattle.std.proofs.Common.{◌≡◌, ◌<◌, ℕ, false, get_or}
use Rattle.std.specs.Prelude.{◌||◌}
use Rattle.fx_bitmap.specs.Bits.{bit_at}
use Rattle.vol_repair.proofs.bits.index_block.Given as goal

abbrev pub invariant-loop-i : goal.invariant-loop-i
invariant-loop-i l = (j : ℕ) → j < l.i → bit_at l.b j ≡ (bit_at l.old j || get_or l.kept j false)
