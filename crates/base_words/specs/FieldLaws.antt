-- The laws of fields: what was written reads back, and everything else stays.
use Rattle.std.specs.Prelude.{◌≡◌, ◌+◌, ◌^◌, ◌<◌, ◌≤◌, ℕ, List, length, slice_index}
use Rattle.base_words.specs.Fields.{Block, field, put, put_field, checksum, summed}

-- a number that fits its field reads back
abbrev pub ReadsBack : Type 0
ReadsBack = (b : Block) (o w n : ℕ) → o ≤ length b → n < 256 ^ w → field (put_field b o w n) o w ≡ n

-- a field that ends in front of what was written, or begins behind it, stays
pub record StaysApart : Type 0 where
  pub below : (b : Block) (o : ℕ) (bytes : List ℕ) (p w : ℕ) → o ≤ length b → p + w ≤ o → field (put b o bytes) p w ≡ field b p w
  pub above : (b : Block) (o : ℕ) (bytes : List ℕ) (p w : ℕ) → o ≤ length b → o + length bytes ≤ p → field (put b o bytes) p w ≡ field b p w

-- a block that is written with its checksum has it, and no other byte of it changed
pub record IsSummed : Type 0 where
  pub right : (b : Block) → length b ≡ 512 → field (summed b) 510 2 ≡ checksum (summed b) 255
  pub others : (b : Block) (k : ℕ) → length b ≡ 512 → k < 510 → slice_index (summed b) k ≡ slice_index b k
