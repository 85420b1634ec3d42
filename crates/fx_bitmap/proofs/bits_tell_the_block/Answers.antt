use Rattle.std.proofs.Common.{◌∙◌, refl, sym}
use Rattle.fx_bitmap.specs.Bits.{bit_at}
use Rattle.fx_bitmap.proofs.Blocks.{block_of-same}
use Rattle.fx_bitmap.proofs.bits_tell_the_block.Goals as goal

pub returns : goal.returns
returns c = λ a b a_long b_long a_bytes b_bytes same.
    block_of-same a (bit_at b) a_long a_bytes same ∙ sym (block_of-same b (bit_at b) b_long b_bytes (λ i h. refl))
