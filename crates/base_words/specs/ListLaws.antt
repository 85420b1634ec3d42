-- Laws of lists and of writes.
use Rattle.std.specs.Prelude.{◌≡◌, ◌⊎◌, ◌↔◌, ◌++◌, ℕ, Bool, not, List, Some, length, filter, slice_get}
use Rattle.base_words.specs.Lists.{Has, Once, AreApart, Parts, written, Touches, StandsIn, HoldsPart}

-- an item of two lists in a row is an item of the first or of the second
abbrev pub HasJoined : Type 0 → Type 0
HasJoined A = (xs ys : List A) (x : A) → Has (xs ++ ys) x ↔ (Has xs x ⊎ Has ys x)

-- an item is what stands at some place
abbrev pub HasPlace : Type 0 → Type 0
HasPlace A = (xs : List A) (x : A) → Has xs x ↔ ((k : ℕ) × (slice_get xs k ≡ Some x))

-- two lists in a row have nothing twice exactly where neither of them has and they are apart
abbrev pub OnceJoined : Type 0 → Type 0
OnceJoined A = (xs ys : List A) → Once (xs ++ ys) ↔ (Once xs × Once ys × AreApart xs ys)

-- the items that pass a test and those that fail it are the parts of a list, and each part has nothing twice where the list has not
pub record Filtered (A : Type 0) : Type 0 where
  pub parts : (p : A → Bool) (xs : List A) → Parts xs (filter p xs) (filter (λ x. not (p x)) xs)
  pub once : (p : A → Bool) (xs : List A) → Once xs → Once (filter p xs)

-- writes in a row are the first ones and then the others
abbrev pub WrittenJoined : Type 0 → Type 0
WrittenJoined A = (ws vs : List (ℕ × A)) (bs : List A) → written (ws ++ vs) bs ≡ written vs (written ws bs)

-- writes leave the length, and what stands where none of them is
pub record WritesLand (A : Type 0) : Type 0 where
  pub count : (ws : List (ℕ × A)) (bs : List A) → length (written ws bs) ≡ length bs
  pub untouched : (ws : List (ℕ × A)) (bs : List A) (l : ℕ) → (Touches ws l → ⊥) → slice_get (written ws bs) l ≡ slice_get bs l

-- where a write is, the same stands after the writes whatever stood there before
abbrev pub TouchedAlike : Type 0 → Type 0
TouchedAlike A = (ws : List (ℕ × A)) (bs cs : List A) (l : ℕ) → length bs ≡ length cs → Touches ws l → slice_get (written ws bs) l ≡ slice_get (written ws cs) l

-- a place is touched by writes in a row where the first ones or the others touch it
abbrev pub TouchesJoined : Type 0 → Type 0
TouchesJoined A = (ws vs : List (ℕ × A)) (l : ℕ) → Touches (ws ++ vs) l ↔ (Touches ws l ⊎ Touches vs l)

-- items stand in a row where the first ones and the others stand
abbrev pub StandsJoined : Type 0 → Type 0
StandsJoined A = (bs : List A) (ss ts : List (ℕ × A)) → StandsIn bs (ss ++ ts) ↔ (StandsIn bs ss × StandsIn bs ts)

-- what stands at places that no write touches stands there after the writes
abbrev pub StandsStill : Type 0 → Type 0
StandsStill A = (ws : List (ℕ × A)) (bs : List A) (ss : List (ℕ × A)) → ((l : ℕ) → Touches ws l → Touches ss l → ⊥) → StandsIn bs ss → StandsIn (written ws bs) ss

-- a list that more was being added to holds a beginning of two lists in a row: nothing, a beginning of the first, or the first and a
-- beginning of the second
pub record HoldsPartLaws (A : Type 0) : Type 0 where
  pub nothing : (old more new : List A) → new ≡ old → HoldsPart old more new
  pub first : (old xs ys new : List A) → HoldsPart old xs new → HoldsPart old (xs ++ ys) new
  pub second : (old xs ys new : List A) → HoldsPart (old ++ xs) ys new → HoldsPart old (xs ++ ys) new
