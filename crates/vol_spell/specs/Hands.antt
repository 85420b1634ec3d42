-- Things that go from one owner to another.
use Rattle.std.specs.Prelude.{◌≡◌, ◌≢◌, ◌⊎◌, ◌↔◌, ℕ, List, [], ◌∷◌, Some, slice_get, slice_set}
use Rattle.vol_spell.specs.declared.owner.Owner.{Owner}
use Rattle.base_words.specs.Lists.{Has}

-- the owners after these things went to owner o
abbrev pub handed : List ℕ → Owner → List Owner → List Owner
handed [] o xs = xs
handed (q ∷ qs) o xs = handed qs o (slice_set xs q o)

-- each of these things is of owner a
abbrev pub AreOf : List ℕ → Owner → List Owner → Type 0
AreOf qs a xs = (q : ℕ) → Has qs q → slice_get xs q ≡ Some a

-- these things went from owner a to owner o, and nothing else changed hands
pub record AreHanded (qs : List ℕ) (a o : Owner) (xs ys : List Owner) : Type 0 where
  pub to : (q : ℕ) → (slice_get ys q ≡ Some o) ↔ (Has qs q ⊎ (slice_get xs q ≡ Some o))
  pub from : (q : ℕ) → (slice_get ys q ≡ Some a) ↔ ((slice_get xs q ≡ Some a) × (Has qs q → ⊥))
  pub others : (b : Owner) (q : ℕ) → b ≢ a → b ≢ o → (slice_get ys q ≡ Some b) ↔ (slice_get xs q ≡ Some b)
