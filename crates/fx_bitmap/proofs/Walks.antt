-- Walks over the bits of a block that pass whole bytes.
use Rattle.std.proofs.Common.{◌≡◌, ◌∙◌, ◌+◌, ◌*◌, ◌/◌, ◌%◌, ◌<◌, ◌≤◌, ℕ, zero, suc, true, false, List, get_or, refl, ap, arith}
use Rattle.fx_bitmap.specs.Bits.{byte_bit, bit_at}
use Rattle.fx_bitmap.proofs.Blocks.{bit_at-split}

zero_bit : (k : ℕ) → k < 8 → byte_bit 0 k ≡ false
zero_bit zero h = refl
zero_bit (suc zero) h = refl
zero_bit (suc (suc zero)) h = refl
zero_bit (suc (suc (suc zero))) h = refl
zero_bit (suc (suc (suc (suc zero)))) h = refl
zero_bit (suc (suc (suc (suc (suc zero))))) h = refl
zero_bit (suc (suc (suc (suc (suc (suc zero)))))) h = refl
zero_bit (suc (suc (suc (suc (suc (suc (suc zero))))))) h = refl
zero_bit (suc (suc (suc (suc (suc (suc (suc (suc k)))))))) h = absurd (omega arith)

one_bit : (k : ℕ) → k < 8 → byte_bit 255 k ≡ true
one_bit zero h = refl
one_bit (suc zero) h = refl
one_bit (suc (suc zero)) h = refl
one_bit (suc (suc (suc zero))) h = refl
one_bit (suc (suc (suc (suc zero)))) h = refl
one_bit (suc (suc (suc (suc (suc zero))))) h = refl
one_bit (suc (suc (suc (suc (suc (suc zero)))))) h = refl
one_bit (suc (suc (suc (suc (suc (suc (suc zero))))))) h = refl
one_bit (suc (suc (suc (suc (suc (suc (suc (suc k)))))))) h = absurd (omega arith)

in_byte : (b : List ℕ) (i j : ℕ) → i % 8 ≡ 0 → i ≤ j → j < i + 8 → bit_at b j ≡ byte_bit (get_or b (i / 8) 0) (j % 8)
in_byte b i j even from to =
    let at : j ≡ 8 * (i / 8) + j % 8 = omega arith in
    ap (bit_at b) at ∙ bit_at-split b (i / 8) (j % 8) (omega arith)

-- all bits of a byte of zero are clear
pub clear_byte : (b : List ℕ) (i j : ℕ) → i % 8 ≡ 0 → get_or b (i / 8) 0 ≡ 0 → i ≤ j → j < i + 8 → bit_at b j ≡ false
clear_byte b i j even byte from to = in_byte b i j even from to ∙ ap (λ (n : ℕ). byte_bit n (j % 8)) byte ∙ zero_bit (j % 8) (omega arith)

-- all bits of a byte of 255 are set
pub set_byte : (b : List ℕ) (i j : ℕ) → i % 8 ≡ 0 → get_or b (i / 8) 0 ≡ 255 → i ≤ j → j < i + 8 → bit_at b j ≡ true
set_byte b i j even byte from to = in_byte b i j even from to ∙ ap (λ (n : ℕ). byte_bit n (j % 8)) byte ∙ one_bit (j % 8) (omega arith)
