-- Blocks, and the little-endian fields in them. A block is a list of 512 bytes.
use Rattle.std.specs.Prelude.{◌≡◌, ◌+◌, ◌*◌, ◌%◌, ◌^◌, ◌<◌, ℕ, zero, suc, List, ◌++◌, take, drop, length, slice_get, slice_index, Some, slice_index_or, map, [], Bool, ◌==◌}
use Rattle.byteorder.specs.Endian.{little_number, little_bytes}

abbrev pub Block : Type 0
Block = List ℕ

-- the blocks alone, of blocks with their LBNs
abbrev pub blocks_alone : List (ℕ × Block) → List Block
blocks_alone seen = map (λ s. s.1) seen

-- each is a byte
abbrev pub IsBytes : List ℕ → Type 0
IsBytes b = (i : ℕ) → slice_index b i < 256

-- a whole block: 512 bytes
pub record IsWholeBlock (b : Block) : Type 0 where
  pub long : length b ≡ 512
  pub bytes : IsBytes b

-- each of these blocks is whole
abbrev pub AreWholeBlocks : List Block → Type 0
AreWholeBlocks bs = (l : ℕ) (b : Block) → slice_get bs l ≡ Some b → IsWholeBlock b

-- the number of the w bytes at offset o, the lowest first
abbrev pub field : Block → ℕ → ℕ → ℕ
field b o w = little_number w (drop o b)

-- the block with these bytes at offset o
abbrev pub put : Block → ℕ → List ℕ → Block
put b o bytes = take o b ++ (bytes ++ drop (o + length bytes) b)

-- the block with a number of w bytes at offset o
abbrev pub put_field : Block → ℕ → ℕ → ℕ → Block
put_field b o w n = put b o (little_bytes w n)

-- the sum of the first k words
unfoldable pub word_sum : Block → ℕ → ℕ
word_sum b zero = 0
word_sum b (suc k) = word_sum b k + field b (2 * k) 2

-- the same in 16 bits
unfoldable pub checksum : Block → ℕ → ℕ
checksum b k = word_sum b k % 2 ^ 16

-- the block with the checksum of its first 255 words in its last word
unfoldable pub summed : Block → Block
summed b = put_field b 510 2 (checksum b 255)

-- the block of an LBN
abbrev pub block_at : List Block → ℕ → Block
block_at bs lbn = slice_index_or bs lbn []

-- the last word is the sum of those in front of it
unfoldable pub has_sum : Block → Bool
has_sum b = field b 510 2 == checksum b 255
