use Rattle.std.proofs.Common.{◌≡◌, ◌==◌, ◌+◌, ◌*◌, ◌<◌, ℕ, length}
use Rattle.std.specs.Prelude.{◌&&◌, slice_index}
use Rattle.fx_bitmap.specs.Bits.{bit_at}
use Rattle.vol_repair.proofs.bits.storage_block.Given as goal

abbrev pub invariant-loop-i : goal.invariant-loop-i
invariant-loop-i l = (j : ℕ) → j < l.i → 4096 * l.k + j < length l.counts → bit_at l.b j ≡ (bit_at l.old j && (slice_index l.counts (4096 * l.k + j) == 0))
