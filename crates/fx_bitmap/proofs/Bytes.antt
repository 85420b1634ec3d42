-- The bits of a byte.
use Rattle.std.proofs.Common.{◌≡◌, ◌≢◌, ◌∙◌, ◌+◌, ◌-◌, ◌*◌, ◌%◌, ◌^◌, ◌<◌, ◌==◌, inl, inr, ℕ, zero, suc, Bool, true, false, if◌then◌else◌, bit_and, bit_or, refl, sym, ap, arith, pow-suc, lit<}
use Rattle.std.specs.Int.{bit_at as digit, w8}
use Rattle.std.proofs.lemmas.Bool.{cases_lt}
use Rattle.std.proofs.lemmas.Nat.Bits.{bit_at-lt, bit_at_cat_low, bit_at_cat_high, bit_at_set_same, bit_at_set_other, bit_at_clear_same, bit_at_clear_other, same_from_bits_below}
use Rattle.fx_bitmap.specs.Bits.{byte_bit, number_of}

-- a test as a digit
unfoldable pub digit_of : Bool → ℕ
digit_of true = 1
digit_of false = 0

-- the digit of a byte is told by its bit
digit_of-one : (d : ℕ) → d < 2 → d ≡ digit_of (d == 1)
unfolding digit_of
digit_of-one zero h = refl
digit_of-one (suc zero) h = refl
digit_of-one (suc (suc d)) h = absurd (omega arith)

digit-byte_bit : (byte i : ℕ) → digit byte i ≡ digit_of (byte_bit byte i)
digit-byte_bit byte i = digit_of-one (digit byte i) (bit_at-lt byte i)

digit_of-test : (b : Bool) → (digit_of b == 1) ≡ b
unfolding digit_of
digit_of-test true = refl
digit_of-test false = refl

-- one more bit in front
pub number_of-more : (b : Bool) (n k : ℕ) → n + (if b then 2 ^ k else 0) ≡ digit_of b * 2 ^ k + n
unfolding digit_of
number_of-more true n k = omega arith
number_of-more false n k = omega arith

more-lt : (b : Bool) (n k : ℕ) → n < 2 ^ k → n + (if b then 2 ^ k else 0) < 2 ^ suc k
more-lt true n k h = rw pow-suc (omega arith)
more-lt false n k h = rw pow-suc (omega arith)

digit_of-digit : (b : Bool) → digit (digit_of b) 0 ≡ digit_of b
unfolding digit_of
digit_of-digit true = refl
digit_of-digit false = refl

pub number_of-lt : (bits : ℕ → Bool) (k : ℕ) → number_of bits k < 2 ^ k
unfolding number_of
number_of-lt bits zero = lit< tt
number_of-lt bits (suc k) = more-lt (bits k) (number_of bits k) k (number_of-lt bits k)

digit-number_of : (bits : ℕ → Bool) (k i : ℕ) → i < k → digit (number_of bits k) i ≡ digit_of (bits i)
unfolding number_of
digit-number_of bits zero i h = absurd (omega arith)
digit-number_of bits (suc k) i h =
    let n = number_of bits k in
    let more = ap (λ m. digit m i) (number_of-more (bits k) n k) in
    elim (cases_lt i k) [
      | inl below ↦ more ∙ bit_at_cat_low (digit_of (bits k)) k n i below ∙ digit-number_of bits k i below
      | inr above ↦
          let here : i ≡ k = omega arith in
          let first : i - k ≡ 0 = omega arith in
          more ∙ bit_at_cat_high (digit_of (bits k)) k n i (number_of-lt bits k) above
          ∙ rw (first, here) (digit_of-digit (bits k))
    ]

-- the bits of the number that was made of bits
pub byte_bit-number_of : (bits : ℕ → Bool) (i : ℕ) → i < 8 → byte_bit (number_of bits 8) i ≡ bits i
byte_bit-number_of bits i h = rw (digit-number_of bits 8 i h) (digit_of-test (bits i))

-- a byte is the number of its bits
pub number_of-same : (byte : ℕ) (bits : ℕ → Bool) → byte < 256 → ((i : ℕ) → i < 8 → byte_bit byte i ≡ bits i) → byte ≡ number_of bits 8
number_of-same byte bits small same =
    same_from_bits_below 8 byte (number_of bits 8) small (number_of-lt bits 8) (λ i h.
    digit-byte_bit byte i ∙ ap digit_of (same i h) ∙ sym (digit-number_of bits 8 i h))

-- a byte with bit k set, and with bit k clear
pub byte_bit-set_same : (byte k : ℕ) → k < 8 → byte_bit (bit_or byte (1 * 2 ^ k % 256)) k ≡ true
byte_bit-set_same byte k h = ap (λ d. d == 1) (bit_at_set_same w8 byte k h)

pub byte_bit-set_other : (byte k i : ℕ) → k < 8 → i ≢ k → byte_bit (bit_or byte (1 * 2 ^ k % 256)) i ≡ byte_bit byte i
byte_bit-set_other byte k i h ne = ap (λ d. d == 1) (bit_at_set_other w8 byte k h i ne)

pub byte_bit-clear_same : (byte k : ℕ) → k < 8 → byte_bit (bit_and byte (255 - 1 * 2 ^ k % 256)) k ≡ false
byte_bit-clear_same byte k h = ap (λ d. d == 1) (bit_at_clear_same w8 byte k h)

pub byte_bit-clear_other : (byte k i : ℕ) → k < 8 → i < 8 → i ≢ k → byte_bit (bit_and byte (255 - 1 * 2 ^ k % 256)) i ≡ byte_bit byte i
byte_bit-clear_other byte k i h l ne = ap (λ d. d == 1) (bit_at_clear_other w8 byte k h i l ne)
