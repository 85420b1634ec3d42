-- What is written in octal digits reads back, and digits without a leading zero are what is written of their value.
use Rattle.std.proofs.Common.{◌≡◌, ◌∙◌, ◌+◌, ◌*◌, ◌/◌, ◌%◌, ◌^◌, ◌<◌, ◌≤◌, ◌++◌, ℕ, zero, suc, false, List, [], ◌∷◌, length, get_or, refl, sym, ap, cond, arith, append_assoc, eq-eqb, ne_eqb, inl, inr}
use Rattle.std.specs.Fmt.{digit_glyph, digits_onto, digits}
use Rattle.std.specs.Str.Parse.{AllDigits, digits_value_after, digits_value}
use Rattle.std.specs.Char.{digit_value}
use Rattle.std.proofs.lemmas.List.{append-nil}
use Rattle.std.proofs.lemmas.Bool.{cases_lt}
use Rattle.std.proofs.Common.{tests}
use Rattle.std.proofs.lemmas.Str.{digit_value_digit}
use Rattle.std.proofs.lemmas.Str.Parse.{digit_from_value}

abbrev spell : ℕ → ℕ → List ℕ → List ℕ
spell k n acc = digits_onto k 8 false n acc

abbrev last_glyph : ℕ → ℕ
last_glyph n = digit_glyph false (n % 8)

is_spelled : (n : ℕ) → spell 64 n [] ≡ digits 8 false n
unfolding digits
is_spelled n = refl

glyph : (d : ℕ) → d < 10 → digit_glyph false d ≡ 48 + d
glyph d h = search (arith, tests)

spell_last : (k n : ℕ) (acc : List ℕ) → n < 8 → spell (suc k) n acc ≡ last_glyph n ∷ acc
spell_last k n acc h = ap (λ t. cond t (last_glyph n ∷ acc) (spell k (n / 8) (last_glyph n ∷ acc))) (eq-eqb (n / 8) 0 (omega arith))

spell_next : (k n : ℕ) (acc : List ℕ) → 8 ≤ n → spell (suc k) n acc ≡ spell k (n / 8) (last_glyph n ∷ acc)
spell_next k n acc h = ap (λ t. cond t (last_glyph n ∷ acc) (spell k (n / 8) (last_glyph n ∷ acc))) (ne_eqb (n / 8) 0 (λ e. omega arith))

spell-append : (k n : ℕ) (acc : List ℕ) → spell k n acc ≡ spell k n [] ++ acc
spell-append zero n acc = refl
spell-append (suc k) n acc = elim (cases_lt n 8) [
  | inl l ↦ spell_last k n acc l ∙ ap (λ x. x ++ acc) (sym (spell_last k n [] l))
  | inr l ↦ spell_next k n acc l ∙ spell-append k (n / 8) (last_glyph n ∷ acc) ∙ sym (append_assoc (spell k (n / 8) []) (last_glyph n ∷ []) acc) ∙ ap (λ x. x ++ acc) (sym (spell_next k n [] l ∙ spell-append k (n / 8) (last_glyph n ∷ [])))
]

-- the digit limit does not matter once it is large enough
spell_enough : (j k n : ℕ) (acc : List ℕ) → n < 8 ^ suc j → n < 8 ^ suc k → spell (suc j) n acc ≡ spell (suc k) n acc
spell_enough zero k n acc p q = spell_last zero n acc (omega arith) ∙ sym (spell_last k n acc (omega arith))
spell_enough (suc j) zero n acc p q = spell_last (suc j) n acc (omega arith) ∙ sym (spell_last zero n acc (omega arith))
spell_enough (suc j) (suc k) n acc p q = elim (cases_lt n 8) [
  | inl l ↦ spell_last (suc j) n acc l ∙ sym (spell_last (suc k) n acc l)
  | inr l ↦ spell_next (suc j) n acc l ∙ spell_enough j k (n / 8) (last_glyph n ∷ acc) (omega arith) (omega arith) ∙ sym (spell_next (suc k) n acc l)
]

octal_step : (n : ℕ) → 8 ≤ n → n < 8 ^ 64 → digits 8 false n ≡ digits 8 false (n / 8) ++ ((48 + n % 8) ∷ [])
octal_step n h small =
    sym (is_spelled n) ∙ spell_next 63 n [] h ∙ spell_enough 62 63 (n / 8) (last_glyph n ∷ []) (omega arith) (omega arith) ∙ spell-append 64 (n / 8) (last_glyph n ∷ [])
    ∙ (λ i. is_spelled (n / 8) i ++ (glyph (n % 8) (omega arith) i ∷ []))

octal_digit : (n : ℕ) → n < 8 → digits 8 false n ≡ (48 + n) ∷ []
octal_digit n h = let e : n % 8 ≡ n = omega arith in sym (is_spelled n) ∙ spell_last 63 n [] h ∙ ap (λ x. x ∷ []) (glyph (n % 8) (omega arith) ∙ ap (λ x. 48 + x) e)

-- a number above 0 does not begin with the digit 0
first_onto : (k n : ℕ) (acc : List ℕ) → 0 < n → n < 8 ^ k → 48 < get_or (spell k n acc) 0 0
first_onto zero n acc some small = absurd (omega arith)
first_onto (suc k) n acc some small = elim (cases_lt n 8) [
  | inl l ↦ let g = glyph (n % 8) (omega arith) in rw (spell_last k n acc l) (omega (arith, g))
  | inr l ↦ rw (spell_next k n acc l) (first_onto k (n / 8) (last_glyph n ∷ acc) (omega arith) (omega arith))
]

pub first_octal : (n : ℕ) → 0 < n → n < 8 ^ 64 → 48 < get_or (digits 8 false n) 0 0
first_octal n some small = rw (sym (is_spelled n)) (first_onto 64 n [] some small)

le_value_after : (n : ℕ) (ds : List ℕ) → n ≤ digits_value_after 8 n ds
le_value_after n [] = omega arith
le_value_after n (c ∷ cs) = omega (arith, le_value_after (n * 8 + digit_value c) cs)

value_after : (n : ℕ) (ds : List ℕ) → 0 < n → AllDigits 8 ds → digits_value_after 8 n ds < 2 ^ 64 → digits 8 false (digits_value_after 8 n ds) ≡ digits 8 false n ++ ds
value_after n [] some d small = sym (append-nil (digits 8 false n))
value_after n (c ∷ cs) some d small =
    let m : ℕ = n * 8 + digit_value c in
    let k = digit_value_digit c (digit_from_value c (omega (arith, d.0))) in
    let front : m / 8 ≡ n = omega (arith, d.0) in
    let end : 48 + m % 8 ≡ c = omega (arith, d.0, digit_from_value c (omega (arith, d.0))) in
    value_after m cs (omega arith) d.1 small
    ∙ ap (λ x. x ++ cs) (octal_step m (omega arith) (omega (arith, le_value_after m cs)) ∙ (λ i. digits 8 false (front i) ++ (end i ∷ [])))
    ∙ append_assoc (digits 8 false n) (c ∷ []) cs

pub octal_value : (ds : List ℕ) → AllDigits 8 ds → 0 < length ds → (get_or ds 0 0 ≡ 48 → length ds ≡ 1) → digits_value 8 ds < 2 ^ 64 → digits 8 false (digits_value 8 ds) ≡ ds
octal_value [] d some lead small = absurd (omega arith)
octal_value (c ∷ []) d some lead small =
    let r = digit_from_value c (omega (arith, d.0)) in
    let k = digit_value_digit c r in
    octal_digit (0 * 8 + digit_value c) (omega (arith, d.0)) ∙ ap (λ x. x ∷ []) (omega (arith, r))
octal_value (c ∷ e ∷ cs) d some lead small =
    let r = digit_from_value c (omega (arith, d.0)) in
    let k = digit_value_digit c r in
    let no_zero : c ≡ 48 → ⊥ = λ z. omega (arith, lead z) in
    let is : 48 + (0 * 8 + digit_value c) ≡ c = omega (arith, r) in
    value_after (0 * 8 + digit_value c) (e ∷ cs) (omega (arith, r)) d.1 small
    ∙ ap (λ x. x ++ (e ∷ cs)) (octal_digit (0 * 8 + digit_value c) (omega (arith, d.0)) ∙ ap (λ x. x ∷ []) is)
