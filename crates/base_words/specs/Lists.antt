-- What is in a list, what stands in it once, and writes to a list by place.
use Rattle.std.specs.Prelude.{◌≡◌, ◌⊎◌, ◌++◌, ℕ, List, [], ◌∷◌, Some, slice_get, slice_set}

-- x is an item
abbrev pub Has : {A : Type 0} → List A → A → Type 0
Has [] x = ⊥
Has (y ∷ ys) x = (y ≡ x) ⊎ Has ys x

-- no item stands twice
abbrev pub Once : {A : Type 0} → List A → Type 0
Once [] = Unit {0}
Once (y ∷ ys) = (Has ys y → ⊥) × Once ys

-- no item of the one is an item of the other
abbrev pub AreApart : {A : Type 0} → List A → List A → Type 0
AreApart {A} xs ys = (x : A) → Has xs x → Has ys x → ⊥

-- each item of the whole is in the part or in the rest, and in one of them alone
pub record Parts {A : Type 0} (whole part rest : List A) : Type 0 where
  pub each : (x : A) → Has whole x → Has part x ⊎ Has rest x
  pub part_in : (x : A) → Has part x → Has whole x
  pub rest_in : (x : A) → Has rest x → Has whole x
  pub apart : AreApart part rest

-- the list after these writes, in order, each of an item at a place
abbrev pub written : {A : Type 0} → List (ℕ × A) → List A → List A
written [] bs = bs
written (w ∷ ws) bs = written ws (slice_set bs w.0 w.1)

-- one of these writes is to the place
abbrev pub Touches : {A : Type 0} → List (ℕ × A) → ℕ → Type 0
Touches [] l = ⊥
Touches (w ∷ ws) l = (w.0 ≡ l) ⊎ Touches ws l

-- each of these items stands at its place
abbrev pub StandsIn : {A : Type 0} → List A → List (ℕ × A) → Type 0
StandsIn bs [] = Unit {0}
StandsIn bs (s ∷ ss) = (slice_get bs s.0 ≡ Some s.1) × StandsIn bs ss

-- the list holds what it held, and behind that a beginning of what was to be added
pub record HoldsPart {A : Type 0} (old more new : List A) : Type 0 where
  pub part : List A
  pub rest : List A
  pub beginning : more ≡ part ++ rest
  pub held : new ≡ old ++ part
