-- A node gives back the locks of a row that are on some names, or all of them, in order.
use Rattle.std.specs.Prelude.{◌≡◌, ◌≢◌, ℕ, false, List, [], ◌∷◌, Some, IsSome, slice_get}
use Rattle.lock_db.specs.declared.name.LockName.{LockName}
use Rattle.lock_db.specs.declared.resource.Resource.{Resource}
use Rattle.lock_db.specs.Queues.{lock_of}
use Rattle.lock_db.specs.Tables.{IsTable, resource_at, released}
use Rattle.base_words.specs.Lists.{Has, Once}
use Rattle.node_locks.specs.Held.{system_of, Row, names_of, AreHeld, waits_at, without, taken_out, with_rows}
use Rattle.node_locks.specs.HeldLaws.{StandsStill, IsHeld, GoesOn}

-- the table after the locks on these names are given back
abbrev pub all_given : ℕ → (LockName → List Resource → List ℕ) → List LockName → List Resource → List Resource
all_given n values [] t = t
all_given n values (name ∷ names) t = all_given n values names (released name (system_of n) (values name t) t)

-- a row without the locks on these names
abbrev pub without_all : List LockName → Row → Row
without_all [] ls = ls
without_all (name ∷ names) ls = without_all names (without name ls)

-- the rows, where the one at place i is without them
abbrev pub all_taken_out : ℕ → List LockName → List Row → List Row
all_taken_out i [] own = own
all_taken_out i (name ∷ names) own = all_taken_out i names (taken_out i name own)

-- each may be given back when its turn comes
abbrev pub MayGiveAll : ℕ → (LockName → List Resource → List ℕ) → List LockName → List Resource → Type 0
MayGiveAll n values [] t = Unit {0}
MayGiveAll n values (name ∷ names) t = IsSome (lock_of (system_of n) (resource_at name t).askers) × MayGiveAll n values names (released name (system_of n) (values name t) t)

-- what is left: of row i these locks, and the other rows stand as they stood
pub record AreSwept (n i : ℕ) (left : Row) (swept own : List Row) (rows : ℕ → List Row) (t after : List Resource) : Type 0 where
  pub table : IsTable after
  pub held : AreHeld after (with_rows rows n swept)
  pub row : IsHeld after n left
  pub rest : (j : ℕ) (xs : Row) → j ≢ i → slice_get own j ≡ Some xs → StandsStill t after n xs
  pub others : (m : ℕ) (xs : Row) → m ≢ n → Has (rows m) xs → GoesOn t after m xs

-- Of a row that waits for nothing, a node gives back the locks on some names.
abbrev pub SweepingHolds : Type 0
SweepingHolds = (values : LockName → List Resource → List ℕ) (t : List Resource) (n i : ℕ) (ls : Row) (names : List LockName) (own : List Row) (rows : ℕ → List Row) → IsTable t → AreHeld t rows → rows n ≡ own
    → slice_get own i ≡ Some ls → waits_at t n ls ≡ false → Once names → ((name : LockName) → Has names name → Has (names_of ls) name)
    → MayGiveAll n values names t × AreSwept n i (without_all names ls) (all_taken_out i names own) own rows t (all_given n values names t)

-- without all of its names a row is empty
abbrev pub AllGo : Type 0
AllGo = (ls : Row) → Once (names_of ls) → without_all (names_of ls) ls ≡ []
