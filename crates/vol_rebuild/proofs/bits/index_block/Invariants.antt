use Rattle.std.proofs.Common.{◌≡◌, ◌<◌, ℕ, false, get_or}
use Rattle.fx_bitmap.specs.Bits.{bit_at}
use Rattle.vol_rebuild.proofs.bits.index_block.Given as goal

abbrev pub invariant-loop-i : goal.invariant-loop-i
invariant-loop-i l = (j : ℕ) → j < l.i → bit_at l.b j ≡ get_or l.flags j false
