-- How many bits are set.
use Rattle.std.proofs.Common.{◌≡◌, ◌∙◌, ◌+◌, ◌*◌, ◌<◌, ◌≤◌, ℕ, zero, suc, Bool, true, false, List, get_or, count_ones, if◌then◌else◌, refl, sym, ap, arith, add-zero, add-suc, lit≤}
use Rattle.std.proofs.lemmas.Bool.{cond_both}
use lib.Count.{ones_cat, ones-ones}
use Rattle.fx_bitmap.specs.Bits.{byte_bit, bit_at, number_of, count_below}
use Rattle.fx_bitmap.proofs.Bytes.{number_of-lt, number_of-same, number_of-more, digit_of}
use Rattle.fx_bitmap.proofs.Blocks.{bit_at-split}

-- counts go on
count_below-add : (test : ℕ → Bool) (n m : ℕ) → count_below test (n + m) ≡ count_below test n + count_below (λ i. test (n + i)) m
unfolding count_below
count_below-add test n zero = simp add-zero
count_below-add test n (suc m) =
    let rest = count_below-add test n m in
    rw (add-suc, rest) (omega arith)

count_below-same : (p q : ℕ → Bool) (n : ℕ) → ((i : ℕ) → i < n → p i ≡ q i) → count_below p n ≡ count_below q n
unfolding count_below
count_below-same p q zero same = refl
count_below-same p q (suc n) same =
    let rest = count_below-same p q n (λ i h. same i (omega arith)) in
    let last = same n (omega arith) in
    rw (rest, last) refl

pub count_below-le : (test : ℕ → Bool) (n : ℕ) → count_below test n ≤ n
unfolding count_below
count_below-le test zero = lit≤ tt
count_below-le test (suc n) =
    let rest = count_below-le test n in
    cond_both (test n) 1 0 (λ x. count_below test n + x ≤ suc n) (λ e. omega arith) (λ e. omega arith)

count_ones-digit : (b : Bool) → count_ones (digit_of b) ≡ (if b then 1 else 0)
unfolding digit_of
count_ones-digit true = ones-ones 1
count_ones-digit false = ones-ones 0

-- the ones of a number made of bits
count_ones-number_of : (bits : ℕ → Bool) (k : ℕ) → count_ones (number_of bits k) ≡ count_below bits k
unfolding number_of count_below
count_ones-number_of bits zero = ones-ones 0
count_ones-number_of bits (suc k) =
    ap count_ones (number_of-more (bits k) (number_of bits k) k)
    ∙ ones_cat k (digit_of (bits k)) (number_of bits k) (number_of-lt bits k)
    ∙ rw (count_ones-digit (bits k), count_ones-number_of bits k) (omega arith)

-- the ones of a byte
count_ones-byte : (byte : ℕ) → byte < 256 → count_ones byte ≡ count_below (byte_bit byte) 8
count_ones-byte byte small =
    ap count_ones (number_of-same byte (byte_bit byte) small (λ i h. refl)) ∙ count_ones-number_of (byte_bit byte) 8

-- one more byte of a block
pub count_set-more : (b : List ℕ) (k : ℕ) → get_or b k 0 < 256 → count_below (bit_at b) (8 * (k + 1)) ≡ count_below (bit_at b) (8 * k) + count_ones (get_or b k 0)
count_set-more b k small =
    let next : 8 * (k + 1) ≡ 8 * k + 8 = omega arith in
    let byte = count_below-same (λ i. bit_at b (8 * k + i)) (byte_bit (get_or b k 0)) 8 (bit_at-split b k) in
    rw next (count_below-add (bit_at b) (8 * k) 8) ∙ ap (λ n. count_below (bit_at b) (8 * k) + n) (byte ∙ sym (count_ones-byte (get_or b k 0) small))
