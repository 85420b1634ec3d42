-- Numbers that a word spells.
use Rattle.std.proofs.Common.{◌≡◌, ◌∙◌, ◌^◌, ◌<◌, ◌≤◌, ◌⊎◌, ◌&&◌, ℕ, zero, suc, true, false, List, [], ◌∷◌, Option, Some, None, Result, Ok, Err, drop, length, get_or, refl, sym, ap, subst, cond, not, ◌||◌, leb, eqb, arith, inl, inr}
use Rattle.std.specs.Fmt.{digits}
use Rattle.std.specs.Str.{bytes_eq, IsUtf8}
use Rattle.std.specs.Str.Parse.{AllDigits, IsNumeral, digits_value, without_leading_plus}
use Rattle.std.specs.Str.Parse.{ParsesUnsigned}
use Rattle.std.specs.Result.{OkIff}
use Rattle.std.specs.Char.{digit_value}
use Rattle.std.proofs.lemmas.Result.{OkIff-at_ok}
use Rattle.std.proofs.lemmas.Bool.{cases_Bool, and_parts, and_from, leb-true, le-leb, eqb-true, eq-eqb, false≢true, both_ways, or_parts, not-false}
use Rattle.std.proofs.lemmas.Fmt.{digits_is_IsNumeral, decimal-digits_value, first_decimal, IsAscii-from_digits}
use Rattle.std.proofs.lemmas.Str.{IsUtf8-from_ascii}
use Rattle.std.proofs.lemmas.Slice.Eq.{bytes_eq-Decides}
use Rattle.std.proofs.lemmas.Str.Parse.{IsNumeralModel, digit_from_value}
use Rattle.plain_cat.specs.InForm.{is_within}
use Rattle.run_script.specs.Steps.{has_odd_start, number_of}
use Rattle.run_script.proofs.Octals.{first_octal, octal_value}

-- the bases that are read
abbrev pub IsBase : ℕ → Type 0
IsBase base = (base ≡ 10) ⊎ (base ≡ 8)

pub is_written : (base n : ℕ) → IsBase base → n < 2 ^ 64 → IsNumeral base (digits base false n) × (digits_value base (digits base false n) ≡ n)
is_written base n (inl e) h = rw e (digits_is_IsNumeral 10 false (omega arith) (omega arith) n (omega arith))
is_written base n (inr e) h = rw e (digits_is_IsNumeral 8 false (omega arith) (omega arith) n (omega arith))

own : IsNumeralModel (AllDigits 10) (digits_value 10)
own = record { to = λ ds p. p; from = λ ds p. p; same = λ ds p. refl }

pub is_value : (base : ℕ) (ds : List ℕ) → IsBase base → IsNumeral base ds → (get_or ds 0 0 ≡ 48 → length ds ≡ 1) → digits_value base ds < 2 ^ 64 → digits base false (digits_value base ds) ≡ ds
is_value base ds (inl e) h lead small = let P : ℕ → Type 0 = λ base. IsNumeral base ds → digits_value base ds < 2 ^ 64 → digits base false (digits_value base ds) ≡ ds in
    subst P (sym e) (λ h small. decimal-digits_value own ds h.1 h.0 lead small) h small
is_value base ds (inr e) h lead small = let P : ℕ → Type 0 = λ base. IsNumeral base ds → digits_value base ds < 2 ^ 64 → digits base false (digits_value base ds) ≡ ds in
    subst P (sym e) (λ h small. octal_value ds h.1 h.0 lead small) h small

-- what a word spells lies within the limits, and is written as the word
pub number-sound : (base low high : ℕ) (word : List ℕ) (n : ℕ) → number_of base low high word ≡ Some n → (low ≤ n) × (n ≤ high) × (word ≡ digits base false n)
unfolding number_of
number-sound base low high word n h =
    let v = digits_value base word in
    let test = is_within low high v && bytes_eq word (digits base false v) in
    elim (cases_Bool test) [
      | inl passes ↦
          let parts = and_parts (is_within low high v) (bytes_eq word (digits base false v)) passes in
          let limits = and_parts (leb low v) (leb v high) parts.0 in
          let same : v ≡ n = some_is v n (sym (ap (λ t. cond t (Some v) None) passes) ∙ h) in
          (omega (arith, leb-true low v limits.0), omega (arith, leb-true v high limits.1), (bytes_eq-Decides word (digits base false v)).0 parts.1 ∙ ap (digits base false) same)
      | inr other ↦ absurd (none_is n (sym (ap (λ t. cond t (Some v) None) other) ∙ h))
    ]
  where
    some_is : (m n : ℕ) → ◌≡◌ {A = Option ℕ} (Some m) (Some n) → m ≡ n
    some_is m n e = cc

    none_is : (n : ℕ) → ◌≡◌ {A = Option ℕ} None (Some n) → ⊥
    none_is n e = cc

pub number-some : (base low high : ℕ) (word : List ℕ) (n : ℕ) → low ≤ n → n ≤ high → digits_value base word ≡ n → word ≡ digits base false n → number_of base low high word ≡ Some n
unfolding number_of
number-some base low high word n above below value written =
    rw value (ap (λ t. cond t (Some n) None) (and_from (is_within low high n) (bytes_eq word (digits base false n))
    (and_from (leb low n) (leb n high) (le-leb low n above) (le-leb n high below)) ((bytes_eq-Decides word (digits base false n)).1 written)))

-- a number that is written reads back
pub number-back : (base low high n : ℕ) → IsBase base → n < 2 ^ 64 → low ≤ n → n ≤ high → number_of base low high (digits base false n) ≡ Some n
number-back base low high n is_base small above below = number-some base low high (digits base false n) n above below (is_written base n is_base small).1 refl

pub number-none : (base low high : ℕ) (word : List ℕ) → ((n : ℕ) → low ≤ n → n ≤ high → word ≡ digits base false n → ⊥) → number_of base low high word ≡ None
number-none base low high word h = elim (option_cases (number_of base low high word)) [
  | inl e ↦ e
  | inr found ↦ let facts = number-sound base low high word found.0 found.1 in absurd (h found.0 facts.0 facts.1 facts.2)
]
  where
    option_cases : (o : Option ℕ) → (o ≡ None) ⊎ ((n : ℕ) × (o ≡ Some n))
    option_cases None = inl refl
    option_cases (Some n) = inr (n, refl)

-- a number above 0 does not begin with the digit 0
first_digit : (base n : ℕ) → IsBase base → 0 < n → n < 2 ^ 64 → 48 < get_or (digits base false n) 0 0
first_digit base n (inl e) some small = rw e (first_decimal n some small)
first_digit base n (inr e) some small = rw e (first_octal n some (omega arith))

zero_text : (base : ℕ) → IsBase base → length (digits base false 0) ≡ 1
unfolding digits
zero_text base (inl e) = rw e refl
zero_text base (inr e) = rw e refl

-- what is written begins with no sign, and with no zero that another digit follows
no_odd_start : (base n : ℕ) (word : List ℕ) → IsBase base → n < 2 ^ 64 → word ≡ digits base false n → has_odd_start word ≡ true → ⊥
no_odd_start base n [] is_base small e odd = false≢true odd
no_odd_start base n (b ∷ bs) is_base small e odd =
    let P : List ℕ → Type 0 = λ l. AllDigits base l in
    let ds = subst P (sym e) (is_written base n is_base small).0.1 in
    let high = base_small base is_base in
    elim (cases_Bool (eqb b 43)) [
      | inl plus ↦ let v : digit_value b ≡ 36 = ap digit_value (eqb-true b 43 plus) in omega (arith, ds.0, v, high)
      | inr none ↦
          let zeros = and_parts (eqb b 48) (not (eqb (length bs) 0)) (sym (ap (λ t. t || (eqb b 48 && not (eqb (length bs) 0))) none) ∙ odd) in
          zero_first n small (eqb-true b 48 zeros.0) (λ z. both_ways (not (eqb (length bs) 0)) (ap not (eq-eqb (length bs) 0 z)) zeros.1) e
    ]
  where
    base_small : (base : ℕ) → IsBase base → base ≤ 10
    base_small base (inl e) = omega arith
    base_small base (inr e) = omega arith

    zero_first : (m : ℕ) → m < 2 ^ 64 → b ≡ 48 → (length bs ≡ 0 → ⊥) → (b ∷ bs) ≡ digits base false m → ⊥
    zero_first zero below is_zero more e = more (let l = ap length e ∙ zero_text base is_base in omega (arith, l))
    zero_first (suc m) below is_zero more e =
        let first = first_digit base (suc m) is_base (omega arith) below in
        let here : b ≡ get_or (digits base false (suc m)) 0 0 = ap (λ l. get_or l 0 0) e in
        omega (arith, first, here)

pub odd-none : (base low high : ℕ) (word : List ℕ) → IsBase base → high < 2 ^ 32 → has_odd_start word ≡ true → number_of base low high word ≡ None
odd-none base low high word is_base top odd = number-none base low high word (λ n above below e. no_odd_start base n word is_base (omega arith) e odd)

-- what is no text at all is no number
pub all_decimal : (base : ℕ) (ds : List ℕ) → IsBase base → AllDigits base ds → AllDigits 10 ds
all_decimal base [] is_base h = tt
all_decimal base (c ∷ cs) is_base h = (below_ten base is_base h.0, all_decimal base cs is_base h.1)
  where
    below_ten : (base : ℕ) → IsBase base → digit_value c < base → digit_value c < 10
    below_ten base (inl e) d = omega arith
    below_ten base (inr e) d = omega arith

pub no_text-none : (base low high : ℕ) (word : List ℕ) → IsBase base → high < 2 ^ 32 → (IsUtf8 word → ⊥) → number_of base low high word ≡ None
no_text-none base low high word is_base top h = number-none base low high word (λ n above below e. h (subst IsUtf8 (sym e)
    (IsUtf8-from_ascii (digits base false n) (IsAscii-from_digits (digits base false n) (all_decimal base (digits base false n) is_base (is_written base n is_base (omega arith)).0.1)))))

same_without_plus : (word : List ℕ) → has_odd_start word ≡ false → without_leading_plus word ≡ word
same_without_plus [] h = refl
same_without_plus (b ∷ bs) h = ap (λ t. drop (cond t 1 0) (b ∷ bs)) (or_parts (eqb b 43) (eqb b 48 && not (eqb (length bs) 0)) h).0

no_zero : (word : List ℕ) → has_odd_start word ≡ false → get_or word 0 0 ≡ 48 → length word ≡ 1
no_zero [] h e = absurd (omega arith)
no_zero (b ∷ bs) h e =
    let two = (or_parts (eqb b 43) (eqb b 48 && not (eqb (length bs) 0)) h).1 in
    let rest : not (eqb (length bs) 0) ≡ false = sym (ap (λ t. t && not (eqb (length bs) 0)) (eq-eqb b 48 e)) ∙ two in
    let none = eqb-true (length bs) 0 (not-false (eqb (length bs) 0) rest) in
    omega (arith, none)

module _ (base low high : ℕ) (word text : List ℕ) (is_base : IsBase base) (top : high < 2 ^ 32) (start : has_odd_start word ≡ false) (same : text ≡ word) {E : Type 0} where
  plain : (r : Result ℕ E) → ParsesUnsigned 32 base text r → OkIff r (IsNumeral base word × (digits_value base word < 2 ^ 32)) (digits_value base word)
  plain r h = let P : List ℕ → Type 0 = λ l. OkIff r (IsNumeral base l × (digits_value base l < 2 ^ 32)) (digits_value base l) in
      subst P (ap without_leading_plus same ∙ same_without_plus word start) h

  -- digits that do not parse are no number
  pub unparsed-none : (e : E) → ParsesUnsigned {E = E} 32 base text (Err e) → number_of base low high word ≡ None
  unparsed-none e h = number-none base low high word (λ n above below w.
      let facts = is_written base n is_base (omega arith) in
      let P : List ℕ → Type 0 = λ l. IsNumeral base l × (digits_value base l ≡ n) in
      let here = subst P (sym w) facts in
      plain (Err e) h (here.0, omega (arith, here.1)))

  -- digits that parse are the number, where it is within the limits
  pub parsed-some : (r : Result ℕ E) (n : ℕ) → ParsesUnsigned 32 base text r → r ≡ Ok n → low ≤ n → n ≤ high → number_of base low high word ≡ Some n
  parsed-some r n h e above below =
      let facts = OkIff-at_ok r _ (digits_value base word) n (plain r h) e in
      number-some base low high word n above below (sym facts.1)
      (sym (is_value base word is_base facts.0.0 (no_zero word start) (omega (arith, facts.0.1))) ∙ ap (digits base false) (sym facts.1))

  pub outside-none : (r : Result ℕ E) (n : ℕ) → ParsesUnsigned 32 base text r → r ≡ Ok n → (low ≤ n → n ≤ high → ⊥) → number_of base low high word ≡ None
  outside-none r n h e out = number-none base low high word (λ m above below w.
      let facts = OkIff-at_ok r _ (digits_value base word) n (plain r h) e in
      let P : List ℕ → Type 0 = λ l. digits_value base l ≡ m in
      let here = subst P (sym w) (is_written base m is_base (omega arith)).1 in
      let is : n ≡ m = facts.1 ∙ here in
      out (omega arith) (omega arith))

-- a number begins with a digit
pub first_byte : (n : ℕ) → n < 2 ^ 64 → get_or (digits 10 false n) 0 0 ≤ 57
first_byte n small = by (digits 10 false n) (is_written 10 n (inl refl) small).0.1
  where
    by : (ds : List ℕ) → AllDigits 10 ds → get_or ds 0 0 ≤ 57
    by [] h = omega arith
    by (c ∷ cs) h = let r = digit_from_value c h.0 in omega (arith, r)
