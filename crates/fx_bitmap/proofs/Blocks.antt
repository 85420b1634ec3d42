-- A block as its bits.
use Rattle.std.proofs.Common.{◌≡◌, ◌≢◌, ◌∙◌, ◌+◌, ◌*◌, ◌/◌, ◌%◌, ◌<◌, ◌≤◌, ◌==◌, ◌&&◌, inl, inr, ℕ, Bool, true, false, List, length, get_or, slice_set, nat_le, nat_lt, if◌then◌else◌, refl, sym, ap, arith, get_or-set_same, get_or-set_other}
use Rattle.std.proofs.lemmas.Bool.{eq-eqb, ne_eqb, cases_eq}
use Rattle.std.proofs.lemmas.Bool.Decides.{nat_tests}
use Rattle.std.proofs.lemmas.List.FromFn.{get_or-map-range_with_len, fill_by_all}
use Rattle.base_words.specs.Fields.{IsBytes}
use Rattle.fx_bitmap.specs.Bits.{byte_bit, bit_at, number_of, block_of}
use Rattle.fx_bitmap.proofs.Bytes.{byte_bit-number_of, number_of-same}

-- a bit by the byte that it stands in and its place there
pub bit_at-split : (b : List ℕ) (k i : ℕ) → i < 8 → bit_at b (8 * k + i) ≡ byte_bit (get_or b k 0) i
unfolding bit_at
bit_at-split b k i h =
    let byte : (8 * k + i) / 8 ≡ k = omega arith in
    let place : (8 * k + i) % 8 ≡ i = omega arith in
    rw (byte, place) refl

-- a block made of bits has them
pub bit_at-block_of : (bits : ℕ → Bool) (i : ℕ) → i < 4096 → bit_at (block_of bits) i ≡ bits i
unfolding bit_at block_of
bit_at-block_of bits i h =
    let f = λ (k : ℕ). number_of (λ n. bits (8 * k + n)) 8 in
    let same : 8 * (i / 8) + i % 8 ≡ i = omega arith in
    let byte = get_or-map-range_with_len f 0 512 (i / 8) (i / 8) 0 (omega arith) (omega arith) in
    ap (λ x. byte_bit x (i % 8)) byte
    ∙ byte_bit-number_of (λ n. bits (8 * (i / 8) + n)) (i % 8) (omega arith)
    ∙ ap bits same

-- a block of bytes is told by its bits
pub block_of-same : (b : List ℕ) (bits : ℕ → Bool) → length b ≡ 512 → IsBytes b → ((i : ℕ) → i < 4096 → bit_at b i ≡ bits i) → b ≡ block_of bits
unfolding block_of
block_of-same b bits long bytes same =
    let f = λ (k : ℕ). number_of (λ n. bits (8 * k + n)) 8 in
    fill_by_all f b 512 0 long (λ k h.
    number_of-same (get_or b k 0) (λ n. bits (8 * k + n)) (bytes k) (λ i l.
    sym (bit_at-split b k i l) ∙ same (8 * k + i) (omega arith)))

-- a changed byte changes one bit, where its other bits are as before
pub bit_at-changed : (b : List ℕ) (i j byte : ℕ) (value : Bool) → i / 8 < length b → byte_bit byte (i % 8) ≡ value → ((k : ℕ) → k < 8 → k ≢ i % 8 → byte_bit byte k ≡ byte_bit (get_or b (i / 8) 0) k) → bit_at (slice_set b (i / 8) byte) j ≡ (if j == i then value else bit_at b j)
unfolding bit_at
bit_at-changed b i j byte value h here others =
    elim (cases_eq j i) [
      | inl e ↦
          let test : (j == i) ≡ true = eq-eqb j i e in
          rw (test, e, get_or-set_same) here
      | inr ne ↦
          let test : (j == i) ≡ false = ne_eqb j i ne in
          elim (cases_eq (j / 8) (i / 8)) [
            | inl same_byte ↦
                let other_place : j % 8 ≢ i % 8 = λ e. ne (omega arith) in
                rw (test, same_byte, get_or-set_same) (others (j % 8) (omega arith) other_place)
            | inr other_byte ↦ rw (test, get_or-set_other) refl
          ]
    ]

-- one more bit of a run
pub one_more : (from i j : ℕ) (value old : Bool) → from ≤ i → (if j == i then value else if nat_le from j && nat_lt j i then value else old) ≡ (if nat_le from j && nat_lt j (i + 1) then value else old)
one_more from i j value old h = grind (arith, nat_tests)
