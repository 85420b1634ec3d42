-- Lists in which one item is set, and tests of all items.
use Rattle.std.proofs.Common.{◌≡◌, ◌<◌, ◌==◌, ◌&&◌, ◌||◌, ◌⊎◌, inl, inr, ℕ, zero, suc, Bool, true, false, not, List, [], ◌∷◌, Some, None, length, slice_get, slice_set, refl, sym, ap, ◌∙◌, arith}
use Rattle.std.specs.Prelude.{replicate}
use Rattle.std.specs.List.{list_any, list_all}
use Rattle.std.proofs.lemmas.Bool.Decides.{nat_tests}

-- ---- truth values

pub both : (a b : Bool) → a ≡ true → b ≡ true → (a && b) ≡ true
both true true h k = refl
both true false h k = absurd (let f : false ≡ true = k in cc)
both false b h k = absurd (let f : false ≡ true = h in cc)

pub left : (a b : Bool) → (a && b) ≡ true → a ≡ true
left true b h = refl
left false b h = absurd (let f : false ≡ true = h in cc)

pub right : (a b : Bool) → (a && b) ≡ true → b ≡ true
right true b h = h
right false b h = absurd (let f : false ≡ true = h in cc)

pub clash : {P : Type 0} (b : Bool) → b ≡ true → b ≡ false → P
clash b h k = absurd (let f : true ≡ false = sym h ∙ k in cc)

pub not_true : (b : Bool) → not b ≡ true → b ≡ false
not_true true h = absurd (let f : false ≡ true = h in cc)
not_true false h = refl

pub is_true : (b : Bool) → (b ≡ false → ⊥) → b ≡ true
is_true true h = refl
is_true false h = absurd (h refl)

-- ---- numbers

pub same_number : (a b : ℕ) → (a == b) ≡ true → a ≡ b
same_number a b e = grind (arith, nat_tests)

pub number_same : (a b : ℕ) → a ≡ b → (a == b) ≡ true
number_same a b e = grind (arith, nat_tests)

pub other_number : (a b : ℕ) → (a == b) ≡ false → a ≡ b → ⊥
other_number a b e = grind (arith, nat_tests)

pub same_or_other : (a b : ℕ) → (a ≡ b) ⊎ (a ≡ b → ⊥)
same_or_other a b = by_test (a == b) refl where
  by_test : (t : Bool) → (a == b) ≡ t → (a ≡ b) ⊎ (a ≡ b → ⊥)
  by_test true e = inl (same_number a b e)
  by_test false e = inr (other_number a b e)

-- ---- an item that is set

pub set_else : {A : Type 0} (xs : List A) (i j : ℕ) (y : A) → (i ≡ j → ⊥) → slice_get (slice_set xs i y) j ≡ slice_get xs j
set_else [] i j y ne = refl
set_else (x ∷ xs) zero zero y ne = absurd (ne refl)
set_else (x ∷ xs) zero (suc j) y ne = refl
set_else (x ∷ xs) (suc i) zero y ne = refl
set_else (x ∷ xs) (suc i) (suc j) y ne = set_else xs i j y (λ e. ne (ap suc e))

pub set_here : {A : Type 0} (xs : List A) (i : ℕ) (y : A) → i < length xs → slice_get (slice_set xs i y) i ≡ Some y
set_here [] i y lt = absurd (omega arith)
set_here (x ∷ xs) zero y lt = refl
set_here (x ∷ xs) (suc i) y lt = set_here xs i y (omega arith)

-- what stands at a place once an item is set, where something does
pub set_there : {A : Type 0} (xs : List A) (i : ℕ) (y x : A) → slice_get (slice_set xs i y) i ≡ Some x → x ≡ y
set_there [] i y x e = absurd (let f : None ≡ Some x = e in cc)
set_there (z ∷ xs) zero y x e = let f : Some y ≡ Some x = e in cc
set_there (z ∷ xs) (suc i) y x e = set_there xs i y x e

pub set_count : {A : Type 0} (xs : List A) (i : ℕ) (y : A) → length (slice_set xs i y) ≡ length xs
set_count [] i y = refl
set_count (x ∷ xs) zero y = refl
set_count (x ∷ xs) (suc i) y = ap suc (set_count xs i y)

pub there_in : {A : Type 0} (xs : List A) (i : ℕ) (x : A) → slice_get xs i ≡ Some x → i < length xs
there_in [] i x e = absurd (let f : None ≡ Some x = e in cc)
there_in (y ∷ xs) zero x e = omega arith
there_in (y ∷ xs) (suc i) x e = let lt : i < length xs = there_in xs i x e in omega arith

pub same_there : {A : Type 0} (n i : ℕ) (y x : A) → slice_get (replicate n y) i ≡ Some x → x ≡ y
same_there zero i y x e = absurd (let f : None ≡ Some x = e in cc)
same_there (suc n) zero y x e = let f : Some y ≡ Some x = e in cc
same_there (suc n) (suc i) y x e = same_there n i y x e

pub same_count : {A : Type 0} (n : ℕ) (y : A) → length (replicate n y) ≡ n
same_count zero y = refl
same_count (suc n) y = ap suc (same_count n y)

-- ---- tests of all items

pub none_any : {X : Type 0} (p : X → Bool) (xs : List X) → ((i : ℕ) (x : X) → slice_get xs i ≡ Some x → p x ≡ false) → list_any p xs ≡ false
none_any p [] h = refl
none_any p (x ∷ xs) h = ap (λ b. b || list_any p xs) (h 0 x refl) ∙ none_any p xs (λ i y e. h (suc i) y e)

pub any_none : {X : Type 0} (p : X → Bool) (xs : List X) (i : ℕ) (x : X) → list_any p xs ≡ false → slice_get xs i ≡ Some x → p x ≡ false
any_none p [] i x h e = absurd (let f : None ≡ Some x = e in cc)
any_none p (y ∷ xs) zero x h e = let f : Some y ≡ Some x = e in let g : y ≡ x = cc in ap p (sym g) ∙ first (p y) (list_any p xs) h where
  first : (a b : Bool) → (a || b) ≡ false → a ≡ false
  first a b k = grind arith
any_none p (y ∷ xs) (suc i) x h e = any_none p xs i x (second (p y) (list_any p xs) h) e where
  second : (a b : Bool) → (a || b) ≡ false → b ≡ false
  second a b k = grind arith

pub any_there : {X : Type 0} (p : X → Bool) (xs : List X) (i : ℕ) (x : X) → slice_get xs i ≡ Some x → p x ≡ true → list_any p xs ≡ true
any_there p xs i x e h = is_true (list_any p xs) (λ none. clash (p x) h (any_none p xs i x none e))

pub all_there : {X : Type 0} (p : X → Bool) (xs : List X) → ((i : ℕ) (x : X) → slice_get xs i ≡ Some x → p x ≡ true) → list_all p xs ≡ true
all_there p [] h = refl
all_there p (x ∷ xs) h = both (p x) (list_all p xs) (h 0 x refl) (all_there p xs (λ i y e. h (suc i) y e))
