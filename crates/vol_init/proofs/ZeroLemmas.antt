-- What a block of zeros says.
use Rattle.std.proofs.Common.{◌≡◌, ◌∙◌, ◌+◌, ◌-◌, ◌/◌, ◌%◌, ◌^◌, ◌<◌, ◌≤◌, ◌==◌, ◌&&◌, nat_le, nat_lt, min, ℕ, zero, suc, Bool, true, false, [], ◌∷◌, Option, Some, Err, refl, ap, arith}
use Rattle.std.specs.Prelude.{if◌then◌else◌}
use Rattle.std.specs.List.{range_with_len, filter_map}
use Rattle.std.proofs.lemmas.List.{get_or-replicate}
use Rattle.std.proofs.lemmas.Bool.Decides.{nat_tests}
use Rattle.std.proofs.Math.Nat.{div-le_self}
use Rattle.base_words.specs.Fields.{Block, word_sum, checksum, summed}
use Rattle.base_words.specs.Tables.{zeros}
use Rattle.fx_home.specs.declared.home.HomeFault.TheVariants.{BadFormat}
use Rattle.fx_home.specs.Homes.{home_read, has_format}
use Rattle.fx_header.specs.Headers.{freed}
use Rattle.fx_bitmap.specs.Bits.{byte_bit, bit_at, is_among, ArePut}
use Rattle.fx_quota.specs.declared.types.Row.{Row}
use Rattle.fx_quota.specs.Rows.{row_at, IsRowPut}
use Rattle.vol_parts.specs.Volumes.{rows_in}

pub zeros-home : home_read zeros ≡ Err BadFormat
unfolding home_read has_format zeros
zeros-home = refl

-- a slot whose number was never used
pub freed-none : freed 0 ≡ zeros
unfolding freed summed checksum word_sum zeros
freed-none = refl

zero-byte : (i : ℕ) → byte_bit 0 i ≡ false
zero-byte i =
    let none : 0 / 2 ^ i ≡ 0 = omega (arith, div-le_self 0 (2 ^ i)) in
    rw none refl

pub zeros-bit : (i : ℕ) → i < 4096 → bit_at zeros i ≡ false
unfolding bit_at zeros
zeros-bit i h =
    let inside : i / 8 < 512 = omega arith in
    rw (get_or-replicate {A = ℕ} 512 (i / 8) 0 0 inside) (zero-byte (i % 8))

pub zeros-rows : rows_in zeros ≡ []
unfolding rows_in row_at zeros
zeros-rows = refl

same-rows : {X : Type 0} (f g : ℕ → Option X) (a n : ℕ) → ((j : ℕ) → a ≤ j → j < a + n → f j ≡ g j) → filter_map f (range_with_len a n) ≡ filter_map g (range_with_len a n)
same-rows f g a zero h = refl
same-rows f g a (suc n) h =
    let first : f a ≡ g a = h a (omega arith) (omega arith) in
    let others = same-rows f g (a + 1) n (λ j low high. h j (omega arith) (omega arith)) in
    rw (first, others) refl

pub two-rows : (b : Block) (r s : Row) → ((j : ℕ) → j < 16 → row_at b j ≡ (if j == 1 then Some s else if j == 0 then Some r else row_at zeros j)) → rows_in b ≡ r ∷ s ∷ []
unfolding rows_in row_at zeros
two-rows b r s h = same-rows (row_at b) (λ j. if j == 1 then Some s else if j == 0 then Some r else row_at zeros j) 0 16 (λ j low high. h j high) ∙ refl

pub rows-put : (b first second : Block) (r s : Row) → b ≡ zeros → IsRowPut b first 0 (Some r) → IsRowPut first second 1 (Some s) → rows_in second ≡ r ∷ s ∷ []
rows-put b first second r s e one two = two-rows second r s (λ j h.
    two j h ∙ ap (λ (o : Option Row). if j == 1 then Some s else o) (one j h ∙ ap (λ x. if j == 0 then Some r else row_at x j) e))

-- ---- bits that are set in a block of zeros

bits-put : (b new : Block) (from n i : ℕ) → b ≡ zeros → ArePut b new from n true → i < 4096 → bit_at new i ≡ (if is_among from n i then true else false)
bits-put b new from n i e put h = put i h ∙ ap (λ v. if is_among from n i then true else v) (ap (λ x. bit_at x i) e ∙ zeros-bit i h)

itself : (t : Bool) → (if t then true else false) ≡ t
itself true = refl
itself false = refl

pub numbers-put : (b new : Block) (i : ℕ) → b ≡ zeros → ArePut b new 0 11 true → i < 4096 → bit_at new i ≡ nat_lt i 11
numbers-put b new i e put h =
    let same : is_among 0 11 i ≡ nat_lt i 11 = grind (arith, nat_tests) in
    bits-put b new 0 11 i e put h ∙ itself _ ∙ same

same-le : (a b c d : ℕ) → (a ≤ b → c ≤ d) → (c ≤ d → a ≤ b) → nat_le a b ≡ nat_le c d
same-le a b c d to from = grind (arith, nat_tests)

same-lt : (a b c d : ℕ) → (a < b → c < d) → (c < d → a < b) → nat_lt a b ≡ nat_lt c d
same-lt a b c d to from = grind (arith, nat_tests)

-- the numbers from low to high, as far as they are among the 4,096 from a base on
pub range-put : (b new : Block) (base low high from to i : ℕ) → b ≡ zeros → from ≡ min (low - base) 4096 → to ≡ min (high - base) 4096 → from < to
    → ArePut b new from (to - from) true → i < 4096 → bit_at new i ≡ (nat_le low (base + i) && nat_lt (base + i) high)
range-put b new base low high from to i e f t some put h =
    let front : nat_le from i ≡ nat_le low (base + i) = same-le from i low (base + i) (λ x. omega arith) (λ x. omega arith) in
    let back : nat_lt i (from + (to - from)) ≡ nat_lt (base + i) high = same-lt i (from + (to - from)) (base + i) high (λ x. omega arith) (λ x. omega arith) in
    bits-put b new from (to - from) i e put h ∙ itself _ ∙ rw (front, back) refl

pub range-none : (b : Block) (base low high from to i : ℕ) → b ≡ zeros → from ≡ min (low - base) 4096 → to ≡ min (high - base) 4096 → to ≤ from
    → i < 4096 → bit_at b i ≡ (nat_le low (base + i) && nat_lt (base + i) high)
range-none b base low high from to i e f t none h =
    let never : (low ≤ base + i → base + i < high → ⊥) = λ x y. omega arith in
    ap (λ x. bit_at x i) e ∙ zeros-bit i h ∙ grind (arith, nat_tests)
