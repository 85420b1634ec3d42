-- Where texts are cut, and values that are made of values.
use Rattle.std.proofs.Common.{◌≡◌, ◌∙◌, ◌+◌, ◌≤◌, ◌<◌, ◌^◌, ◌⊎◌, ◌++◌, ℕ, suc, Bool, true, false, List, [], ◌∷◌, Option, Some, None, length, drop, get_or, refl, sym, ap, cond, leb, eqb, arith, inl, inr}
use Rattle.std.specs.List.{list_all, prefix_len, onto_first, join_with_byte}
use Rattle.std.specs.Str.{bytes_eq}
use Rattle.std.specs.Str.Parse.{AllDigits}
use Rattle.std.proofs.lemmas.Bool.{cases_Bool, and_parts, and_from, leb-true, le-leb, eqb-true, eq-eqb, ne_eqb, false≢true, both_ways}
use Rattle.std.proofs.lemmas.List.Splits.{slice_split-cons_yes, slice_split-cons_no, join_with_byte-slice_split}
use Rattle.std.proofs.lemmas.Slice.Eq.{bytes_eq-Decides}
use Rattle.std.proofs.lemmas.Str.Parse.{digit_from_value}
use Rattle.std.specs.Fmt.{digits}
use Rattle.base_words.specs.Names.{is_character, is_part, is_tail, is_name}
use Rattle.plain_cat.specs.InForm.{is_within}
use Rattle.run_script.specs.Lines.{parts}
use Rattle.run_script.specs.Steps.{number_of, behind, with1, with2, with3, with4, with5}
use Rattle.run_script.proofs.Numerals.{IsBase, number-back, is_written, all_decimal}

-- a byte does not stand in a text
abbrev pub Lacks : ℕ → List ℕ → Type 0
Lacks byte [] = Unit {0}
Lacks byte (x ∷ xs) = (eqb x byte ≡ false) × Lacks byte xs

-- a text without the byte is one part
pub parts-none : (byte : ℕ) (xs : List ℕ) → Lacks byte xs → parts byte xs ≡ xs ∷ []
parts-none byte [] h = refl
parts-none byte (x ∷ xs) h = slice_split-cons_no (λ b. eqb b byte) x xs h.0 ∙ ap (onto_first x) (parts-none byte xs h.1)

-- the first part ends where the byte stands first
pub parts-at : (byte : ℕ) (xs rest : List ℕ) → Lacks byte xs → parts byte (xs ++ (byte ∷ rest)) ≡ xs ∷ parts byte rest
parts-at byte [] rest h = slice_split-cons_yes (λ b. eqb b byte) byte rest (eq-eqb byte byte refl)
parts-at byte (x ∷ xs) rest h = slice_split-cons_no (λ b. eqb b byte) x (xs ++ (byte ∷ rest)) h.0 ∙ ap (onto_first x) (parts-at byte xs rest h.1)

pub Lacks-append : (byte : ℕ) (xs ys : List ℕ) → Lacks byte xs → Lacks byte ys → Lacks byte (xs ++ ys)
Lacks-append byte [] ys h k = k
Lacks-append byte (x ∷ xs) ys h k = (h.0, Lacks-append byte xs ys h.1 k)

-- the parts, with the byte between them, are the text
pub joined : (byte : ℕ) (text : List ℕ) (ps : List (List ℕ)) → parts byte text ≡ ps → text ≡ join_with_byte byte ps
joined byte text ps e = sym (join_with_byte-slice_split byte text) ∙ ap (join_with_byte byte) e

-- a list of known length, element by element
pub two_of : (ps : List (List ℕ)) → length ps ≡ 2 → ps ≡ get_or ps 0 [] ∷ get_or ps 1 [] ∷ []
two_of [] h = absurd (omega arith)
two_of (a ∷ []) h = absurd (omega arith)
two_of (a ∷ b ∷ []) h = refl
two_of (a ∷ b ∷ c ∷ ps) h = absurd (omega arith)

one_of : (ps : List (List ℕ)) → length ps ≡ 1 → ps ≡ get_or ps 0 [] ∷ []
one_of [] h = absurd (omega arith)
one_of (a ∷ []) h = refl
one_of (a ∷ b ∷ ps) h = absurd (omega arith)

pub one_part : (byte : ℕ) (text : List ℕ) → length (parts byte text) ≡ 1 → text ≡ get_or (parts byte text) 0 []
one_part byte text h = joined byte text _ (one_of (parts byte text) h)

cut_off : (n : ℕ) (p : List ℕ) (ps : List (List ℕ)) → suc (length ps) ≡ suc n → length ps ≡ n
cut_off n p ps h = omega arith

pub three_of : (ps : List (List ℕ)) → length ps ≡ 3 → ps ≡ get_or ps 0 [] ∷ get_or ps 1 [] ∷ get_or ps 2 [] ∷ []
three_of [] h = absurd (omega arith)
three_of (p ∷ ps) h = ap (λ l. p ∷ l) (two_of ps (omega arith))

pub four_of : (ps : List (List ℕ)) → length ps ≡ 4 → ps ≡ get_or ps 0 [] ∷ get_or ps 1 [] ∷ get_or ps 2 [] ∷ get_or ps 3 [] ∷ []
four_of [] h = absurd (omega arith)
four_of (p ∷ ps) h = ap (λ l. p ∷ l) (three_of ps (omega arith))

pub five_of : (ps : List (List ℕ)) → length ps ≡ 5 → ps ≡ get_or ps 0 [] ∷ get_or ps 1 [] ∷ get_or ps 2 [] ∷ get_or ps 3 [] ∷ get_or ps 4 [] ∷ []
five_of [] h = absurd (omega arith)
five_of (p ∷ ps) h = ap (λ l. p ∷ l) (four_of ps (omega arith))

pub six_of : (ps : List (List ℕ)) → length ps ≡ 6 → ps ≡ get_or ps 0 [] ∷ get_or ps 1 [] ∷ get_or ps 2 [] ∷ get_or ps 3 [] ∷ get_or ps 4 [] ∷ get_or ps 5 [] ∷ []
six_of [] h = absurd (omega arith)
six_of (p ∷ ps) h = ap (λ l. p ∷ l) (five_of ps (omega arith))

pub seven_of : (ps : List (List ℕ)) → length ps ≡ 7 → ps ≡ get_or ps 0 [] ∷ get_or ps 1 [] ∷ get_or ps 2 [] ∷ get_or ps 3 [] ∷ get_or ps 4 [] ∷ get_or ps 5 [] ∷ get_or ps 6 [] ∷ []
seven_of [] h = absurd (omega arith)
seven_of (p ∷ ps) h = ap (λ l. p ∷ l) (six_of ps (omega arith))

-- digits have no byte that is no digit
digits_lack : (byte : ℕ) (ds : List ℕ) → (byte < 48) ⊎ (57 < byte) → AllDigits 10 ds → Lacks byte ds
digits_lack byte [] out h = tt
digits_lack byte (c ∷ cs) out h = (ne_eqb c byte (λ e. outside (digit_from_value c h.0) out e), digits_lack byte cs out h.1)
  where
    outside : (48 ≤ c) × (c ≤ 57) → (byte < 48) ⊎ (57 < byte) → c ≡ byte → ⊥
    outside within (inl low) e = omega (arith, within, e)
    outside within (inr high) e = omega (arith, within, e)

pub number_lacks : (byte base n : ℕ) → IsBase base → n < 2 ^ 64 → (byte < 48) ⊎ (57 < byte) → Lacks byte (digits base false n)
number_lacks byte base n is_base small out = digits_lack byte (digits base false n) out (all_decimal base (digits base false n) is_base (is_written base n is_base small).0.1)

-- what passes a test at each of its bytes has no byte that fails it
pub passing_lack : (test : ℕ → Bool) (byte : ℕ) (xs : List ℕ) → test byte ≡ false → list_all test xs ≡ true → Lacks byte xs
passing_lack test byte [] fails h = tt
passing_lack test byte (x ∷ xs) fails h =
    let both = and_parts (test x) (list_all test xs) h in
    (ne_eqb x byte (λ e. both_ways (test x) (ap test e ∙ fails) both.0), passing_lack test byte xs fails both.1)

pub part_lacks : (byte : ℕ) (xs : List ℕ) → is_character byte ≡ false → is_part xs ≡ true → Lacks byte xs
unfolding is_part
part_lacks byte xs fails h = passing_lack is_character byte xs fails (and_parts (leb (length xs) 39) (list_all is_character xs) h).1

tail_lacks : (byte : ℕ) (xs : List ℕ) → is_character byte ≡ false → eqb 46 byte ≡ false → is_tail (drop (prefix_len is_character xs) xs) ≡ true → Lacks byte xs
tail_lacks byte [] fails dot h = absurd (false≢true h)
tail_lacks byte (x ∷ xs) fails dot h = elim (cases_Bool (is_character x)) [
  | inl is_one ↦
      let e : 1 + prefix_len is_character xs ≡ suc (prefix_len is_character xs) = omega arith in
      let inner = rw (is_one, e) at h in
      (ne_eqb x byte (λ same. both_ways (is_character x) (ap is_character same ∙ fails) is_one), tail_lacks byte xs fails dot inner)
  | inr other ↦
      let inner = rw other at h in
      let both = and_parts (eqb x 46) (is_part xs) inner in
      (ap (λ y. eqb y byte) (eqb-true x 46 both.0) ∙ dot, part_lacks byte xs fails both.1)
]

pub name_lacks : (byte : ℕ) (name : List ℕ) → is_character byte ≡ false → eqb 46 byte ≡ false → is_name name ≡ true → Lacks byte name
unfolding is_name
name_lacks byte name fails dot h =
    tail_lacks byte name fails dot (and_parts (leb (prefix_len is_character name) 39) (is_tail (drop (prefix_len is_character name) name)) h).1

-- limits as tests
pub within : (low high n : ℕ) → low ≤ n → n ≤ high → is_within low high n ≡ true
within low high n above below = and_from (leb low n) (leb n high) (le-leb low n above) (le-leb n high below)

pub limits : (low high n : ℕ) → is_within low high n ≡ true → (low ≤ n) × (n ≤ high)
limits low high n h = let both = and_parts (leb low n) (leb n high) h in (leb-true low n both.0, leb-true n high both.1)

pub reads_back : (base low high n : ℕ) → IsBase base → high < 2 ^ 64 → is_within low high n ≡ true → number_of base low high (digits base false n) ≡ Some n
reads_back base low high n is_base small h = let l = limits low high n h in number-back base low high n is_base (omega (arith, l)) l.0 l.1

pub reads_up_to : (base high n : ℕ) → IsBase base → high < 2 ^ 64 → leb n high ≡ true → number_of base 0 high (digits base false n) ≡ Some n
reads_up_to base high n is_base small h = let l = leb-true n high h in number-back base 0 high n is_base (omega (arith, l)) (omega arith) l

-- what stands behind a byte
pub behind-sound : (byte : ℕ) (word rest : List ℕ) → behind byte word ≡ Some rest → word ≡ byte ∷ rest
behind-sound byte [] rest h = absurd (let no_way : ⊥ = cc in no_way)
behind-sound byte (b ∷ bs) rest h = by (eqb b byte) refl
  where
    by : (t : Bool) → eqb b byte ≡ t → (b ∷ bs) ≡ byte ∷ rest
    by true e = let same : ◌≡◌ {A = Option (List ℕ)} (Some bs) (Some rest) = sym (ap (λ t. cond t (Some bs) None) e) ∙ h in
        let tail : bs ≡ rest = cc in
        λ i. eqb-true b byte e i ∷ tail i
    by false e = absurd (let none : ◌≡◌ {A = Option (List ℕ)} None (Some rest) = sym (ap (λ t. cond t (Some bs) None) e) ∙ h in let no_way : ⊥ = cc in no_way)

-- a choice by a test, and by a word
pub chosen : {A : Type 0} (b : Bool) (o : Option A) (y : A) → cond b o None ≡ Some y → (b ≡ true) × (o ≡ Some y)
chosen true o y h = (refl, h)
chosen false o y h = absurd (let no_way : ⊥ = cc in no_way)

pub by_word : {A : Type 0} (word text : List ℕ) (o rest : Option A) (y : A) → cond (bytes_eq word text) o rest ≡ Some y → ((word ≡ text) × (o ≡ Some y)) ⊎ (rest ≡ Some y)
by_word word text o rest y h = elim (cases_Bool (bytes_eq word text)) [
  | inl same ↦ inl ((bytes_eq-Decides word text).0 same, sym (ap (λ t. cond t o rest) same) ∙ h)
  | inr other ↦ inr (sym (ap (λ t. cond t o rest) other) ∙ h)
]

pub same_some : {A : Type 0} (x y : A) → ◌≡◌ {A = Option A} (Some x) (Some y) → x ≡ y
same_some x y h = cc

pub no_none : {A : Type 0} (y : A) → ◌≡◌ {A = Option A} None (Some y) → ⊥
no_none y h = cc

-- what a value was made of
pub record Made1 {A B : Type 0} (oa : Option A) (f : A → B) (y : B) : Type 0 where
  pub a : A
  pub is_a : oa ≡ Some a
  pub made : f a ≡ y

pub made1 : {A B : Type 0} (oa : Option A) (f : A → B) (y : B) → with1 oa f ≡ Some y → Made1 oa f y
made1 None f y h = absurd (no_none y h)
made1 (Some a) f y h = record { a = a; is_a = refl; made = same_some (f a) y h }

pub record Made2 {A B C : Type 0} (oa : Option A) (ob : Option B) (f : A → B → C) (y : C) : Type 0 where
  pub a : A
  pub b : B
  pub is_a : oa ≡ Some a
  pub is_b : ob ≡ Some b
  pub made : f a b ≡ y

pub made2 : {A B C : Type 0} (oa : Option A) (ob : Option B) (f : A → B → C) (y : C) → with2 oa ob f ≡ Some y → Made2 oa ob f y
made2 None ob f y h = absurd (no_none y h)
made2 (Some a) ob f y h = let m = made1 ob (f a) y h in record { a = a; b = m.a; is_a = refl; is_b = m.is_a; made = m.made }

pub record Made3 {A B C D : Type 0} (oa : Option A) (ob : Option B) (oc : Option C) (f : A → B → C → D) (y : D) : Type 0 where
  pub a : A
  pub b : B
  pub c : C
  pub is_a : oa ≡ Some a
  pub is_b : ob ≡ Some b
  pub is_c : oc ≡ Some c
  pub made : f a b c ≡ y

pub made3 : {A B C D : Type 0} (oa : Option A) (ob : Option B) (oc : Option C) (f : A → B → C → D) (y : D) → with3 oa ob oc f ≡ Some y → Made3 oa ob oc f y
made3 None ob oc f y h = absurd (no_none y h)
made3 (Some a) ob oc f y h = let m = made2 ob oc (f a) y h in record { a = a; b = m.a; c = m.b; is_a = refl; is_b = m.is_a; is_c = m.is_b; made = m.made }

pub record Made4 {A B C D E : Type 0} (oa : Option A) (ob : Option B) (oc : Option C) (od : Option D) (f : A → B → C → D → E) (y : E) : Type 0 where
  pub a : A
  pub b : B
  pub c : C
  pub d : D
  pub is_a : oa ≡ Some a
  pub is_b : ob ≡ Some b
  pub is_c : oc ≡ Some c
  pub is_d : od ≡ Some d
  pub made : f a b c d ≡ y

pub made4 : {A B C D E : Type 0} (oa : Option A) (ob : Option B) (oc : Option C) (od : Option D) (f : A → B → C → D → E) (y : E) → with4 oa ob oc od f ≡ Some y → Made4 oa ob oc od f y
made4 None ob oc od f y h = absurd (no_none y h)
made4 (Some a) ob oc od f y h = let m = made3 ob oc od (f a) y h in
    record { a = a; b = m.a; c = m.b; d = m.c; is_a = refl; is_b = m.is_a; is_c = m.is_b; is_d = m.is_c; made = m.made }

pub record Made5 {A B C D E F : Type 0} (oa : Option A) (ob : Option B) (oc : Option C) (od : Option D) (oe : Option E) (f : A → B → C → D → E → F) (y : F) : Type 0 where
  pub a : A
  pub b : B
  pub c : C
  pub d : D
  pub e : E
  pub is_a : oa ≡ Some a
  pub is_b : ob ≡ Some b
  pub is_c : oc ≡ Some c
  pub is_d : od ≡ Some d
  pub is_e : oe ≡ Some e
  pub made : f a b c d e ≡ y

pub made5 : {A B C D E F : Type 0} (oa : Option A) (ob : Option B) (oc : Option C) (od : Option D) (oe : Option E) (f : A → B → C → D → E → F) (y : F)
    → with5 oa ob oc od oe f ≡ Some y → Made5 oa ob oc od oe f y
made5 None ob oc od oe f y h = absurd (no_none y h)
made5 (Some a) ob oc od oe f y h = let m = made4 ob oc od oe (f a) y h in
    record { a = a; b = m.a; c = m.b; d = m.c; e = m.d; is_a = refl; is_b = m.is_a; is_c = m.is_b; is_d = m.is_c; is_e = m.is_d; made = m.made }
