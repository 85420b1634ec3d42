-- Bits that were put.
use Rattle.base_words.specs.Fields.{Block}
use Rattle.std.proofs.Common.{Bool, ◌≡◌, ◌<◌, if◌then◌else◌, ℕ}
use Rattle.fx_bitmap.specs.Bits.{bit_at, bits_put, is_among}
use Rattle.fx_bitmap.proofs.Blocks.{bit_at-block_of}

pub bits_put_at : (b : Block) (from n i : ℕ) (value : Bool) → i < 4096 → bit_at (bits_put b from n value) i ≡ (if is_among from n i then value else bit_at b i)
unfolding bits_put
bits_put_at b from n i value h = bit_at-block_of (λ j. if is_among from n j then value else bit_at b j) i h
