-- Rows of quota blocks and bits of bitmaps.
use Rattle.std.proofs.Common.{◌≡◌, ◌+◌, ◌*◌, ◌<◌, ℕ, zero, suc, Bool, map, length, bit_and, if◌then◌else◌, refl, arith}
use Rattle.std.specs.List.{range_with_len}
use Rattle.base_words.specs.Fields.{IsBytes, IsWholeBlock}
use Rattle.fx_quota.specs.Rows.{flags_at, row_start, row_table, row_put, row_cleared}
use Rattle.fx_bitmap.specs.Bits.{bit_at, number_of, block_of, is_among, bits_put}
use Rattle.fx_bitmap.proofs.Bytes.{number_of-lt}
use Rattle.vol_parts.specs.Laws.{WholeRow, WholeCleared, WholeBits}
use Rattle.vol_parts.proofs.Bytes.{bytes-none, bytes-cons}
use Rattle.vol_parts.proofs.WholeFields.{whole_field, whole-laid}
use Rattle.fx_quota.proofs.Reading.{row_table-rises}

pub whole_row : WholeRow
unfolding row_put
whole_row b i r whole few = whole-laid (32 * i) (row_table (row_start i) (flags_at b i) r) b (row_table-rises i (flags_at b i) r few) whole

pub whole_cleared : WholeCleared
unfolding row_cleared
whole_cleared b i whole few = whole_field b (row_start i) 4 (bit_and (flags_at b i) 0xffff_fffe) whole (omega arith)

-- what a function makes of each of k numbers from n on
bytes-made : (f : ℕ → ℕ) → ((i : ℕ) → f i < 256) → (n k : ℕ) → IsBytes (map f (range_with_len n k))
bytes-made f small n zero = bytes-none
bytes-made f small n (suc k) = bytes-cons (f n) (map f (range_with_len (n + 1) k)) (small n) (bytes-made f small (n + 1) k)

length-made : (f : ℕ → ℕ) (n k : ℕ) → length (map f (range_with_len n k)) ≡ k
length-made f n zero = refl
length-made f n (suc k) = let e = length-made f (n + 1) k in omega arith

whole-bits : (bits : ℕ → Bool) → IsWholeBlock (block_of bits)
unfolding block_of
whole-bits bits =
    let f = λ (k : ℕ). number_of (λ i. bits (8 * k + i)) 8 in
    record { long = length-made f 0 512; bytes = bytes-made f (λ k. number_of-lt (λ i. bits (8 * k + i)) 8) 0 512 }

pub whole_bits : WholeBits
unfolding bits_put
whole_bits b from n value = whole-bits (λ i. if is_among from n i then value else bit_at b i)
