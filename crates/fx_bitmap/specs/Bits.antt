-- Bitmaps. A block has 4,096 bits: bit i is bit i % 8, from the lowest, of byte i / 8.
use Rattle.std.specs.Prelude.{◌≡◌, ◌+◌, ◌*◌, ◌/◌, ◌%◌, ◌^◌, ◌≤◌, ◌<◌, ◌==◌, ◌&&◌, nat_le, nat_lt, ℕ, zero, suc, Bool, true, false, map, slice_index, length, if◌then◌else◌, Option, Some, None}
use Rattle.std.specs.List.{range_with_len}
use Rattle.base_words.specs.Fields.{Block, IsBytes}

-- bit i of a byte
abbrev pub byte_bit : ℕ → ℕ → Bool
byte_bit byte i = byte / 2 ^ i % 2 == 1

-- bit i of a block
unfoldable pub bit_at : Block → ℕ → Bool
bit_at b i = byte_bit (slice_index b (i / 8)) (i % 8)

-- the number with these for its first k bits
unfoldable pub number_of : (ℕ → Bool) → ℕ → ℕ
number_of bits zero = 0
number_of bits (suc k) = number_of bits k + (if bits k then 2 ^ k else 0)

-- the block with these bits
unfoldable pub block_of : (ℕ → Bool) → Block
block_of bits = map (λ k. number_of (λ i. bits (8 * k + i)) 8) (range_with_len 0 512)

-- bit i is one of the n bits from a first one on
abbrev pub is_among : ℕ → ℕ → ℕ → Bool
is_among from n i = nat_le from i && nat_lt i (from + n)

-- the block with this value for the n bits from a first one on
unfoldable pub bits_put : Block → ℕ → ℕ → Bool → Block
bits_put b from n value = block_of (λ i. if is_among from n i then value else bit_at b i)

-- the n bits from a first one on have this value, and all others are as before
abbrev pub ArePut : Block → Block → ℕ → ℕ → Bool → Type 0
ArePut old new from n value = (i : ℕ) → i < 4096 → bit_at new i ≡ (if is_among from n i then value else bit_at old i)

-- the first set bit at or behind `from`, or none where all from there on are clear
abbrev pub IsFirstSet : Block → ℕ → Option ℕ → Type 0
IsFirstSet b from None = (i : ℕ) → from ≤ i → i < 4096 → bit_at b i ≡ false
IsFirstSet b from (Some i) = (from ≤ i) × (i < 4096) × (bit_at b i ≡ true) × ((j : ℕ) → from ≤ j → j < i → bit_at b j ≡ false)

-- the first clear bit at or behind `from`, or none where all from there on are set
abbrev pub IsFirstClear : Block → ℕ → Option ℕ → Type 0
IsFirstClear b from None = (i : ℕ) → from ≤ i → i < 4096 → bit_at b i ≡ true
IsFirstClear b from (Some i) = (from ≤ i) × (i < 4096) × (bit_at b i ≡ false) × ((j : ℕ) → from ≤ j → j < i → bit_at b j ≡ true)

-- how many of the numbers below n pass a test
unfoldable pub count_below : (ℕ → Bool) → ℕ → ℕ
count_below test zero = 0
count_below test (suc n) = count_below test n + (if test n then 1 else 0)

-- how many of the first n bits are set
unfoldable pub count_set_below : Block → ℕ → ℕ
count_set_below b n = count_below (bit_at b) n

-- how many bits are set
unfoldable pub count_set : Block → ℕ
count_set b = count_below (bit_at b) 4096

-- blocks with the same bits are equal
abbrev pub BitsTellTheBlock : Type 0
BitsTellTheBlock =
    (a b : Block) → length a ≡ 512 → length b ≡ 512 → IsBytes a → IsBytes b → ((i : ℕ) → i < 4096 → bit_at a i ≡ bit_at b i) → a ≡ b
