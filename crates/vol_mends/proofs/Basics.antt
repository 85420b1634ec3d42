-- Single steps on numbers, tests and lists.
use Rattle.std.proofs.Common.{◌≡◌, ◌∙◌, ◌<◌, ◌≤◌, ℕ, zero, suc, Bool, true, false, List, [], ◌∷◌, Some, slice_get, refl, sym, arith, ◌⊎◌, inl, inr}
use Rattle.std.specs.Prelude.{◌&&◌}
use Rattle.base_words.specs.Lists.{Has}

pub clash : (b : Bool) → b ≡ true → b ≡ false → ⊥
clash b t f = let both : true ≡ false = sym t ∙ f in cc both

pub false_by : (p : Bool) → (p ≡ true → ⊥) → p ≡ false
false_by true h = absurd (h refl)
false_by false h = refl

pub and_no : (b : Bool) → b && false ≡ false
and_no true = refl
and_no false = refl

pub lower_or : (k m : ℕ) → (k ≤ m) ⊎ (m < k)
lower_or zero m = inl (omega arith)
lower_or (suc k) zero = inr (omega arith)
lower_or (suc k) (suc m) = step (lower_or k m) where
  step : (k ≤ m) ⊎ (m < k) → (suc k ≤ suc m) ⊎ (suc m < suc k)
  step (inl le) = inl (omega (arith, le))
  step (inr lt) = inr (omega (arith, lt))

-- what stands in a list is one of its items
pub stands : {A : Type 0} (xs : List A) (k : ℕ) (x : A) → slice_get xs k ≡ Some x → Has xs x
stands [] k x at = absurd (cc at)
stands (y ∷ ys) zero x at = inl (cc at)
stands (y ∷ ys) (suc k) x at = inr (stands ys k x at)
