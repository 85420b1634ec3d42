-- What the calls of the lock manager make of the nodes' locks.
use Rattle.std.specs.Prelude.{◌≡◌, ◌≢◌, ◌++◌, ◌≤◌, ◌↔◌, not, ℕ, true, false, List, [], ◌∷◌, Some, None, Contains, slice_get, if◌then◌else◌}
use Rattle.plain_cat.specs.declared.mode.Mode.{Mode}
use Rattle.plain_cat.specs.declared.mode.Mode.TheVariants.{NL, CW, PR, PW}
use Rattle.plain_cat.specs.Modes.{rank}
use Rattle.lock_db.specs.declared.name.LockName.{LockName}
use Rattle.lock_db.specs.declared.askers.Asker.{Asker}
use Rattle.lock_db.specs.declared.resource.Resource.{Resource}
use Rattle.lock_db.specs.Queues.{standing_of, lock_of, held, wanted, goes_beside, head_of, is_upward}
use Rattle.lock_db.specs.Resources.{goes_at_once}
use Rattle.lock_db.specs.Tables.{IsTable, resource_at, asked, converts_now, converted, released, dropped}
use Rattle.lock_db.specs.Laws.{stands_at}
use Rattle.base_words.specs.Lists.{Has, Once}
use Rattle.node_locks.specs.Held.{system_of, has_lock, Row, joined, names_of, IsGranted, HoldsItsLocks, AreHeld, waits_at, held_locks, all_held, without, taken_out, put_in, with_rows}

-- a row of node m stands as it stood
pub record StandsStill (t after : List Resource) (m : ℕ) (ls : Row) : Type 0 where
  pub waits : waits_at after m ls ≡ waits_at t m ls
  pub holds : held_locks after m ls ≡ held_locks t m ls
  pub stands : (name : LockName) → Has (names_of ls) name → stands_at name (system_of m) after ≡ stands_at name (system_of m) t

-- node m holds all of a row
pub record IsHeld (t : List Resource) (m : ℕ) (ls : Row) : Type 0 where
  pub waits : waits_at t m ls ≡ false
  pub holds : held_locks t m ls ≡ ls

-- node m loses nothing of a row, also no lock of which a conversion waits, and does not come to wait for it
pub record GoesOn (t after : List Resource) (m : ℕ) (ls : Row) : Type 0 where
  pub waits : waits_at t m ls ≡ false → waits_at after m ls ≡ false
  pub holds : (l : LockName × Mode) → Has (held_locks t m ls) l → Has (held_locks after m ls) l
  pub lasting : (name : LockName) → Has (names_of ls) name → has_lock name (system_of m) t ≡ true → has_lock name (system_of m) after ≡ true

-- in an empty table no node has a lock
abbrev pub NothingIsHeld : Type 0
NothingIsHeld = (rows : ℕ → List Row) → ((n : ℕ) → joined (rows n) ≡ []) → AreHeld [] rows

-- what node n's request for a lock leaves, where that is now the last of row k
pub record IsAskedFor (n k : ℕ) (ms : Row) (l : LockName × Mode) (own : List Row) (rows : ℕ → List Row) (t after : List Resource) : Type 0 where
  pub held : AreHeld after (with_rows rows n (put_in k l own))
  pub waits : waits_at after n (ms ++ l ∷ []) ≡ not (goes_at_once (system_of n) l.1 (resource_at l.0 t).askers)
  pub last : held_locks after n (ms ++ l ∷ []) ≡ (if goes_at_once (system_of n) l.1 (resource_at l.0 t).askers then ms ++ l ∷ [] else ms)
  pub rest : (j : ℕ) (ls : Row) → j ≢ k → slice_get own j ≡ Some ls → StandsStill t after n ls
  pub others : (m : ℕ) (ls : Row) → m ≢ n → StandsStill t after m ls

-- A node asks for a lock on a name that it has none on, behind a row that waits for nothing: that is the last of the row, and
-- waits where it is not granted at once. The node's other rows, which may wait, stand as they stood, and so do those of others.
abbrev pub AskingHolds : Type 0
AskingHolds = (t : List Resource) (n k : ℕ) (ms : Row) (l : LockName × Mode) (own : List Row) (rows : ℕ → List Row) → AreHeld t rows → rows n ≡ own → slice_get own k ≡ Some ms → waits_at t n ms ≡ false
    → (Has (names_of (joined own)) l.0 → ⊥) → IsAskedFor n k ms l own rows t (asked l.0 (system_of n) l.1 t)

-- and what it holds it goes on to hold
abbrev pub AskingGrows : Type 0
AskingGrows = (t : List Resource) (n k : ℕ) (ms : Row) (l x : LockName × Mode) (own : List Row) (rows : ℕ → List Row) → AreHeld t rows → rows n ≡ own → slice_get own k ≡ Some ms → waits_at t n ms ≡ false
    → (Has (names_of (joined own)) l.0 → ⊥) → Has (all_held t n own) x → Has (all_held (asked l.0 (system_of n) l.1 t) n (put_in k l own)) x

-- what node n's conversion of a lock of row i leaves, where that is now the last of row k
pub record IsConverted (n i k : ℕ) (ls ms : Row) (l : LockName × Mode) (own : List Row) (rows : ℕ → List Row) (t after : List Resource) : Type 0 where
  pub held : AreHeld after (with_rows rows n (put_in k l (taken_out i l.0 own)))
  pub left : IsHeld after n (without l.0 ls)
  pub waits : waits_at after n (ms ++ l ∷ []) ≡ not (converts_now l.0 (system_of n) l.1 t)
  pub last : held_locks after n (ms ++ l ∷ []) ≡ (if converts_now l.0 (system_of n) l.1 t then ms ++ l ∷ [] else ms)
  pub lasting : has_lock l.0 (system_of n) after ≡ true
  pub rest : (j : ℕ) (xs : Row) → j ≢ i → j ≢ k → slice_get own j ≡ Some xs → StandsStill t after n xs
  pub others : (m : ℕ) (xs : Row) → m ≢ n → StandsStill t after m xs

-- A node converts a lock that it has in NL, in a row that waits for nothing: it goes to the end of a row that waits for nothing,
-- and waits there where it is not granted at once. NL goes with every mode, so nobody else is let in, and all else stands as it
-- stood.
abbrev pub ConvertingHolds : Type 0
ConvertingHolds = (t : List Resource) (n i k : ℕ) (ls ms : Row) (l : LockName × Mode) (value : List ℕ) (own : List Row) (rows : ℕ → List Row) → IsTable t → AreHeld t rows → rows n ≡ own
    → slice_get own i ≡ Some ls → Has ls (l.0, NL) → waits_at t n ls ≡ false → slice_get (taken_out i l.0 own) k ≡ Some ms → waits_at t n ms ≡ false
    → IsConverted n i k ls ms l own rows t (converted l.0 (system_of n) l.1 value t)

-- what is left after node n lowered a lock of row i, where that is now the last of row k
pub record IsLowered (n i k : ℕ) (ls ms : Row) (l : LockName × Mode) (own : List Row) (rows : ℕ → List Row) (t after : List Resource) : Type 0 where
  pub held : AreHeld after (with_rows rows n (put_in k l (taken_out i l.0 own)))
  pub left : IsHeld after n (without l.0 ls)
  pub last : IsHeld after n (ms ++ l ∷ [])
  pub rest : (j : ℕ) (xs : Row) → j ≢ i → j ≢ k → slice_get own j ≡ Some xs → StandsStill t after n xs
  pub others : (m : ℕ) (xs : Row) → m ≢ n → Has (rows m) xs → GoesOn t after m xs

-- A node lowers a lock of a row that waits for nothing, or leaves it in its mode, and puts it at the end of such a row. What another
-- node waited for may be granted; nobody loses a lock or comes to wait.
abbrev pub LoweringHolds : Type 0
LoweringHolds = (t : List Resource) (n i k : ℕ) (ls ms : Row) (l : LockName × Mode) (low : Mode) (value : List ℕ) (own : List Row) (rows : ℕ → List Row) → IsTable t → AreHeld t rows → rows n ≡ own
    → slice_get own i ≡ Some ls → Has ls l → waits_at t n ls ≡ false → is_upward l.1 low ≡ false → (l.1 ≡ PR → low ≢ CW)
    → slice_get (taken_out i l.0 own) k ≡ Some ms → waits_at t n ms ≡ false
    → IsLowered n i k ls ms (l.0, low) own rows t (converted l.0 (system_of n) low value t)

-- what is left where a lock of row i stands at the end of row k now, in the same table
pub record IsMoved (n i k : ℕ) (ls ms : Row) (l : LockName × Mode) (own : List Row) (rows : ℕ → List Row) (t : List Resource) : Type 0 where
  pub held : AreHeld t (with_rows rows n (put_in k l (taken_out i l.0 own)))
  pub left : IsHeld t n (without l.0 ls)
  pub last : IsHeld t n (ms ++ l ∷ [])

-- Between rows that wait for nothing a lock may be moved.
abbrev pub MovingHolds : Type 0
MovingHolds = (t : List Resource) (n i k : ℕ) (ls ms : Row) (l : LockName × Mode) (own : List Row) (rows : ℕ → List Row) → AreHeld t rows → rows n ≡ own → slice_get own i ≡ Some ls → Has ls l
    → waits_at t n ls ≡ false → slice_get (taken_out i l.0 own) k ≡ Some ms → waits_at t n ms ≡ false → IsMoved n i k ls ms l own rows t

-- what is left after node n gave back a lock of row i
pub record IsGivenBack (n i : ℕ) (ls : Row) (name : LockName) (own : List Row) (rows : ℕ → List Row) (t after : List Resource) : Type 0 where
  pub held : AreHeld after (with_rows rows n (taken_out i name own))
  pub left : IsHeld after n (without name ls)
  pub rest : (j : ℕ) (xs : Row) → j ≢ i → slice_get own j ≡ Some xs → StandsStill t after n xs
  pub others : (m : ℕ) (xs : Row) → m ≢ n → Has (rows m) xs → GoesOn t after m xs

-- A node gives back a lock of a row that waits for nothing: it has the others, and still waits for nothing there. What another node
-- waited for may be granted; nobody loses a lock or comes to wait.
abbrev pub GivingHolds : Type 0
GivingHolds = (t : List Resource) (n i : ℕ) (ls : Row) (name : LockName) (value : List ℕ) (own : List Row) (rows : ℕ → List Row) → IsTable t → AreHeld t rows → rows n ≡ own
    → slice_get own i ≡ Some ls → Has (names_of ls) name → waits_at t n ls ≡ false → IsGivenBack n i ls name own rows t (released name (system_of n) value t)

-- without its first lock a row is what stands behind that
abbrev pub FirstGoes : Type 0
FirstGoes = (l : LockName × Mode) (ls : Row) → Once (names_of (l ∷ ls)) → without l.0 (l ∷ ls) ≡ ls

-- and a row that waits for nothing does not wait without one of its locks
abbrev pub RestGoesOn : Type 0
RestGoesOn = (t : List Resource) (n : ℕ) (name : LockName) (ls : Row) (rows : List Row) → HoldsItsLocks t n rows → Has rows ls → waits_at t n ls ≡ false → IsHeld t n (without name ls)

-- what is left after the death of node n, whose rows are empty then
pub record IsLeftByDeath (n : ℕ) (none : List Row) (rows : ℕ → List Row) (t after : List Resource) : Type 0 where
  pub held : AreHeld after (with_rows rows n none)
  pub others : (m : ℕ) (xs : Row) → m ≢ n → Has (rows m) xs → GoesOn t after m xs

-- A node that dies, whether it waits or not, has no locks any more. What another node waited for may be granted; nobody else
-- loses a lock or comes to wait.
abbrev pub DyingHolds : Type 0
DyingHolds = (t : List Resource) (n : ℕ) (none : List Row) (rows : ℕ → List Row) → IsTable t → AreHeld t rows → joined none ≡ [] → IsLeftByDeath n none rows t (dropped n t)

-- where a node has a lock in PW or more, no other has one on that name in PR or more
abbrev pub WritersAreSole : Type 0
WritersAreSole = (t : List Resource) (n m : ℕ) (name : LockName) (a b : Mode) (rows : ℕ → List Row) → IsTable t → AreHeld t rows
    → Has (all_held t n (rows n)) (name, a) → Has (all_held t m (rows m)) (name, b) → rank PW ≤ rank a → rank PR ≤ rank b → n ≡ m

-- the locks that a node holds are those that its file system has in the table and of which no conversion waits
abbrev pub HeldAreGranted : Type 0
HeldAreGranted = (t : List Resource) (n : ℕ) (l : LockName × Mode) (rows : List Row) → HoldsItsLocks t n rows → Has (all_held t n rows) l ↔ IsGranted t n l

-- those of a row are the locks of the row among them
abbrev pub RowsAreGranted : Type 0
RowsAreGranted = (t : List Resource) (n : ℕ) (l : LockName × Mode) (ls : Row) (rows : List Row) → HoldsItsLocks t n rows → Has rows ls
    → Has (held_locks t n ls) l ↔ (Has ls l × IsGranted t n l)

-- where a node waits for nothing in a row, it holds all of it
abbrev pub AllAreHeld : Type 0
AllAreHeld = (t : List Resource) (n : ℕ) (ls : Row) → waits_at t n ls ≡ false → held_locks t n ls ≡ ls

-- where all rows of a node stand as they stood, it holds what it held
abbrev pub RowsStandStill : Type 0
RowsStandStill = (t after : List Resource) (m : ℕ) (rows : List Row) → ((ls : Row) → Has rows ls → StandsStill t after m ls) → all_held after m rows ≡ all_held t m rows

-- and where it loses nothing of them, it holds no less
abbrev pub RowsGoOn : Type 0
RowsGoOn = (t after : List Resource) (m : ℕ) (rows : List Row) (l : LockName × Mode) → ((ls : Row) → Has rows ls → GoesOn t after m ls) → Has (all_held t m rows) l → Has (all_held after m rows) l

-- a lock on a name that a node has none on can be asked for
abbrev pub MayAsk : Type 0
MayAsk = (t : List Resource) (n : ℕ) (name : LockName) (rows : List Row) → HoldsItsLocks t n rows → (Has (names_of (joined rows)) name → ⊥)
    → standing_of (system_of n) (resource_at name t).askers ≡ None

-- a lock that a node holds can be converted and given back
abbrev pub MayChange : Type 0
MayChange = (t : List Resource) (n : ℕ) (l : LockName × Mode) (rows : List Row) → HoldsItsLocks t n rows → Has (all_held t n rows) l
    → lock_of (system_of n) (resource_at l.0 t).askers ≡ Some l.1

-- why node n waits at a name: who is to be served next there wants a mode that does not go with what another than n has
pub record IsHeldUpAt (t : List Resource) (n : ℕ) (name : LockName) : Type 0 where
  pub next : Asker
  pub is_next : head_of (resource_at name t).askers ≡ Some next
  pub holder : Asker
  pub stands : Contains (resource_at name t).askers holder
  pub another : holder.owner ≢ system_of n
  pub against : goes_beside (wanted next.standing) (held holder.standing) ≡ false

-- where a row of node n waits, it is for the last lock of it, and another has a lock on that name
abbrev pub WhoWaitsIsHeldUp : Type 0
WhoWaitsIsHeldUp = (t : List Resource) (n : ℕ) (l : LockName × Mode) (front : Row) (rows : List Row) → IsTable t → HoldsItsLocks t n rows → Has rows (front ++ l ∷ [])
    → waits_at t n (front ++ l ∷ []) ≡ true → IsHeldUpAt t n l.0

-- where that other is the file system of node m, m holds a lock on that name; in NL it holds up nobody
abbrev pub HoldersHold : Type 0
HoldersHold = (t : List Resource) (m : ℕ) (name : LockName) (a : Asker) (mode : Mode) (rows : List Row) → IsTable t → HoldsItsLocks t m rows → Contains (resource_at name t).askers a
    → a.owner ≡ system_of m → held a.standing ≡ Some mode → mode ≢ NL → Has (all_held t m rows) (name, mode)
