use Rattle.std.proofs.Common.{◌≡◌, ◌<◌, ℕ, Some, slice_get}
use Rattle.base_words.specs.Fields.{Block, IsWholeBlock}
use Rattle.vol_parts.proofs.whole.blocks_are_whole.Given as goal

-- those in front of the loop are whole
abbrev pub invariant-loop-block : goal.invariant-loop-block
invariant-loop-block l = (k : ℕ) (b : Block) → k < l.block-index → slice_get l.blocks k ≡ Some b → IsWholeBlock b
