-- Owners that change, each by itself.
use Rattle.std.proofs.Common.{◌≡◌, ◌∙◌, ◌+◌, ℕ, zero, suc, Bool, false, cond, List, [], ◌∷◌, Option, Some, None, length, slice_get, refl, sym, ap, subst, arith, ◌⊎◌, inl, inr}
use Rattle.std.specs.Prelude.{option_map, count_by}
use Rattle.std.proofs.lemmas.List.Sums.{sum_by-cons}
use Rattle.vol_spell.specs.declared.owner.Owner.{Owner}
use Rattle.vol_spell.specs.declared.owner.Owner.TheVariants.{Outside}
use Rattle.base_words.specs.Lists.{Has}
use Rattle.vol_spell.specs.Owners.{Moves, AreOut}

-- each of these owners, of which the first stands at place i, changed by its place
abbrev pub turned : (ℕ → Owner → Owner) → ℕ → List Owner → List Owner
turned f i [] = []
turned f i (o ∷ os) = f i o ∷ turned f (suc i) os

pub turned_count : (f : ℕ → Owner → Owner) (i : ℕ) (xs : List Owner) → length (turned f i xs) ≡ length xs
turned_count f i [] = refl
turned_count f i (o ∷ os) = ap suc (turned_count f (suc i) os)

turned_from : (f : ℕ → Owner → Owner) (i : ℕ) (xs : List Owner) (q : ℕ) → slice_get (turned f i xs) q ≡ option_map (f (i + q)) (slice_get xs q)
turned_from f i [] q = refl
turned_from f i (o ∷ os) zero = ap (λ k. Some (f k o)) (let e : i ≡ i + 0 = omega arith in e)
turned_from f i (o ∷ os) (suc q) = turned_from f (suc i) os q ∙ ap (λ k. option_map (f k) (slice_get os q)) (let e : suc i + q ≡ i + suc q = omega arith in e)

-- what stands at a place is changed
pub turned_at : (f : ℕ → Owner → Owner) (xs : List Owner) (q : ℕ) → slice_get (turned f 0 xs) q ≡ option_map (f q) (slice_get xs q)
turned_at f xs q = turned_from f 0 xs q ∙ ap (λ k. option_map (f k) (slice_get xs q)) (let e : 0 + q ≡ q = omega arith in e)

-- it is of an owner that it was changed to
pub turned_was : (f : ℕ → Owner → Owner) (xs : List Owner) (q : ℕ) (o : Owner) → slice_get (turned f 0 xs) q ≡ Some o → (p : Owner) × (slice_get xs q ≡ Some p) × (f q p ≡ o)
turned_was f xs q o e = by (slice_get xs q) refl (sym (turned_at f xs q) ∙ e) where
  by : (x : Option Owner) → slice_get xs q ≡ x → option_map (f q) x ≡ Some o → (p : Owner) × (slice_get xs q ≡ Some p) × (f q p ≡ o)
  by None at h = absurd (cc h)
  by (Some p) at h = (p, at, cc h)

pub turned_is : (f : ℕ → Owner → Owner) (xs : List Owner) (q : ℕ) (p : Owner) → slice_get xs q ≡ Some p → slice_get (turned f 0 xs) q ≡ Some (f q p)
turned_is f xs q p e = turned_at f xs q ∙ ap (option_map (f q)) e

-- a change of each is a move where each moves
pub turned_moves : (P : Option Owner → Type 0) (f : ℕ → Owner → Owner) (xs : List Owner) → ((q : ℕ) (o : Owner) → slice_get xs q ≡ Some o → (f q o ≡ o) ⊎ (P (Some o) × P (Some (f q o)))) → Moves P xs (turned f 0 xs)
turned_moves P f xs may = record { count = turned_count f 0 xs; each = λ q. by q (slice_get xs q) refl } where
  by : (q : ℕ) (x : Option Owner) → slice_get xs q ≡ x → (slice_get (turned f 0 xs) q ≡ slice_get xs q) ⊎ (P (slice_get xs q) × P (slice_get (turned f 0 xs) q))
  by q None at = inl (turned_at f xs q ∙ (ap (option_map (f q)) at ∙ sym at))
  by q (Some o) at = moved (may q o at) where
    moved : (f q o ≡ o) ⊎ (P (Some o) × P (Some (f q o))) → (slice_get (turned f 0 xs) q ≡ slice_get xs q) ⊎ (P (slice_get xs q) × P (slice_get (turned f 0 xs) q))
    moved (inl e) = inl (turned_is f xs q o at ∙ (ap (λ x. Some x) e ∙ sym at))
    moved (inr m) = inr (subst P (sym at) m.0, subst P (sym (turned_is f xs q o at)) m.1)

-- and so are two changes, the one behind the other
pub turned_on : (P : Option Owner → Type 0) (f h : ℕ → Owner → Owner) (xs : List Owner) → ((q : ℕ) (o : Owner) → slice_get xs q ≡ Some o → (h q o ≡ f q o) ⊎ (P (Some (f q o)) × P (Some (h q o)))) → Moves P (turned f 0 xs) (turned h 0 xs)
turned_on P f h xs may = record { count = turned_count h 0 xs ∙ sym (turned_count f 0 xs); each = λ q. by q (slice_get xs q) refl } where
  by : (q : ℕ) (x : Option Owner) → slice_get xs q ≡ x → (slice_get (turned h 0 xs) q ≡ slice_get (turned f 0 xs) q) ⊎ (P (slice_get (turned f 0 xs) q) × P (slice_get (turned h 0 xs) q))
  by q None at = inl (turned_at h xs q ∙ (ap (option_map (h q)) at ∙ sym (turned_at f xs q ∙ ap (option_map (f q)) at)))
  by q (Some o) at = moved (may q o at) where
    moved : (h q o ≡ f q o) ⊎ (P (Some (f q o)) × P (Some (h q o))) → (slice_get (turned h 0 xs) q ≡ slice_get (turned f 0 xs) q) ⊎ (P (slice_get (turned f 0 xs) q) × P (slice_get (turned h 0 xs) q))
    moved (inl e) = inl (turned_is h xs q o at ∙ (ap (λ x. Some x) e ∙ sym (turned_is f xs q o at)))
    moved (inr m) = inr (subst P (sym (turned_is f xs q o at)) m.0, subst P (sym (turned_is h xs q o at)) m.1)

-- nothing is outside where no owner is a node
pub none_outside : (node : ℕ) (xs : List Owner) → ((q : ℕ) → slice_get xs q ≡ Some (Outside node) → ⊥) → AreOut node xs [] []
none_outside node xs never = record { all = λ q. ((λ e. absurd (never q e)), back q); once = tt } where
  back : (q : ℕ) → Has [] q ⊎ Has [] q → slice_get xs q ≡ Some (Outside node)
  back q (inl h) = absurd h
  back q (inr h) = absurd h

-- ---- counts

pub count_next : {A : Type 0} (p : A → Bool) (x : A) (xs : List A) → count_by p (x ∷ xs) ≡ cond (p x) 1 0 + count_by p xs
count_next p x xs = sum_by-cons (λ o. cond (p o) 1 0) x xs

pub count_none : {A : Type 0} (p : A → Bool) (xs : List A) → ((q : ℕ) (o : A) → slice_get xs q ≡ Some o → p o ≡ false) → count_by p xs ≡ 0
count_none p [] never = refl
count_none p (x ∷ xs) never =
    let first : p x ≡ false = never 0 x refl in
    let rest = count_none p xs (λ q o e. never (suc q) o e) in
    let here : cond (p x) 1 0 + 0 ≡ 0 = ap (λ t. cond t 1 0 + 0) first in
    let all = count_next p x xs in
    omega (arith, rest, here, all)

-- each of the owners that change from one to another counts with the other
pub count_turned : (p a : Owner → Bool) (f : ℕ → Owner → Owner) (i : ℕ) (xs : List Owner) → ((q : ℕ) (o : Owner) → cond (p (f q o)) 1 0 ≡ cond (p o) 1 0 + cond (a o) 1 0)
    → count_by p (turned f i xs) ≡ count_by p xs + count_by a xs
count_turned p a f i [] each = refl
count_turned p a f i (x ∷ xs) each =
    let here : cond (p (f i x)) 1 0 ≡ cond (p x) 1 0 + cond (a x) 1 0 = each i x in
    let rest = count_turned p a f (suc i) xs each in
    let now = count_next p (f i x) (turned f (suc i) xs) in
    let one = count_next p x xs in
    let two = count_next a x xs in
    omega (arith, here, rest, now, one, two)
