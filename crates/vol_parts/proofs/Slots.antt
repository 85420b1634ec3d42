-- Which numbers have a slot of a file where each file has one header.
use Rattle.std.proofs.Common.{◌≡◌, ◌∙◌, ◌+◌, ◌<◌, ◌≤◌, ℕ, zero, suc, Bool, true, false, List, [], ◌∷◌, Option, Some, None, refl, sym, ap, arith}
use Rattle.std.specs.Prelude.{◌==◌, ◌&&◌, ◌||◌, is_some}
use Rattle.std.specs.List.{range_with_len, list_any}
use Rattle.std.proofs.lemmas.Bool.{eqb-true, eq-eqb}
use Rattle.std.proofs.lemmas.Bool.Decides.{nat_tests}
use Rattle.fx_header.specs.declared.slot.Hdr.{Hdr}
use Rattle.vol_parts.specs.Volumes.{Volume, IsNumber, numbers, fields, Told, told, is_slot_of, is_in_slots}
use Rattle.vol_parts.proofs.Alone.{none_told}

-- each file has the slot of its own number alone
pub record AreAlone (v : Volume) : Type 0 where
  pub each : (n : ℕ) (f : Hdr) → fields v n ≡ Some f → (told v n).slots ≡ n ∷ []

abbrev slots_with : Option Hdr → ℕ → List ℕ
slots_with (Some f) n = n ∷ []
slots_with None n = []

slots_are : (v : Volume) (n : ℕ) → AreAlone v → (told v n).slots ≡ slots_with (fields v n) n
slots_are v n alone = by_fields (fields v n) refl where
  by_fields : (o : Option Hdr) → fields v n ≡ o → (told v n).slots ≡ slots_with (fields v n) n
  by_fields (Some f) e = alone.each n f e ∙ ap (λ o. slots_with o n) (sym e)
  by_fields None e = ap (λ (t : Told). t.slots) (none_told v n e) ∙ ap (λ o. slots_with o n) (sym e)

own_slot : (o : Option Hdr) (n m : ℕ) → list_any (λ k. k == m) (slots_with o n) ≡ (is_some o && (n == m))
own_slot None n m = refl
own_slot (Some f) n m = by_test (n == m) where
  by_test : (t : Bool) → (t || false) ≡ t
  by_test true = refl
  by_test false = refl

slot_here : (v : Volume) (m n : ℕ) → AreAlone v → is_some (fields v m) ≡ true → n ≡ m → is_slot_of v m n ≡ true
slot_here v m n alone used e =
    ap (list_any (λ k. k == m)) (slots_are v n alone) ∙ own_slot (fields v n) n m ∙ ap (λ k. is_some (fields v k) && (k == m)) e ∙ ap (λ t. t && (m == m)) used ∙ eq-eqb m m refl

no_slot : (v : Volume) (m n : ℕ) → AreAlone v → is_some (fields v m) ≡ false → is_slot_of v m n ≡ false
no_slot v m n alone free = ap (list_any (λ k. k == m)) (slots_are v n alone) ∙ own_slot (fields v n) n m ∙ by_test (n == m) refl where
  and_none : (t : Bool) → (t && false) ≡ false
  and_none true = refl
  and_none false = refl

  by_test : (t : Bool) → (n == m) ≡ t → (is_some (fields v n) && (n == m)) ≡ false
  by_test true e = ap (λ k. is_some (fields v k) && (n == m)) (eqb-true n m e) ∙ ap (λ t. t && (n == m)) free
  by_test false e = ap (λ t. is_some (fields v n) && t) e ∙ and_none (is_some (fields v n))

or_true : (t : Bool) → (t || true) ≡ true
or_true true = refl
or_true false = refl

some_in : (v : Volume) (m a k : ℕ) → AreAlone v → is_some (fields v m) ≡ true → a ≤ m → m < a + k → list_any (is_slot_of v m) (range_with_len a k) ≡ true
some_in v m a zero alone used low high = absurd (omega arith)
some_in v m a (suc k) alone used low high = by_test (a == m) refl (λ lt. some_in v m (a + 1) k alone used lt (omega arith)) where
  by_test : (t : Bool) → (a == m) ≡ t → (a + 1 ≤ m → list_any (is_slot_of v m) (range_with_len (a + 1) k) ≡ true) → (is_slot_of v m a || list_any (is_slot_of v m) (range_with_len (a + 1) k)) ≡ true
  by_test true e rest = ap (λ t. t || list_any (is_slot_of v m) (range_with_len (a + 1) k)) (slot_here v m a alone used (eqb-true a m e))
  by_test false e rest =
      let lt : a + 1 ≤ m = grind (arith, nat_tests) in
      ap (λ t. is_slot_of v m a || t) (rest lt) ∙ or_true (is_slot_of v m a)

none_in : (v : Volume) (m a k : ℕ) → AreAlone v → is_some (fields v m) ≡ false → list_any (is_slot_of v m) (range_with_len a k) ≡ false
none_in v m a zero alone free = refl
none_in v m a (suc k) alone free =
    ap (λ t. t || list_any (is_slot_of v m) (range_with_len (a + 1) k)) (no_slot v m a alone free) ∙ none_in v m (a + 1) k alone free

-- so the numbers of slots are the files'
pub in_slots : (v : Volume) (m : ℕ) → AreAlone v → IsNumber v m → is_in_slots v m ≡ is_some (fields v m)
unfolding is_in_slots
in_slots v m alone is = by_use (is_some (fields v m)) refl where
  by_use : (t : Bool) → is_some (fields v m) ≡ t → list_any (is_slot_of v m) (numbers v) ≡ is_some (fields v m)
  by_use true e = let to = is.to in some_in v m 1 v.home.files alone e is.from (omega arith) ∙ sym e
  by_use false e = none_in v m 1 v.home.files alone e ∙ sym e
