-- A lock that is held in EX is the only one on its name, but for those in NL.
use Rattle.std.proofs.Common.{◌≡◌, ◌≢◌, ◌≤◌, ℕ, true, false, List, ap, sym, inl, inr, arith}
use Rattle.plain_cat.specs.declared.mode.Mode.{Mode}
use Rattle.plain_cat.specs.declared.mode.Mode.TheVariants.{CR, EX}
use Rattle.plain_cat.specs.Modes.{rank, compatible_modes}
use Rattle.lock_db.specs.declared.name.LockName.{LockName}
use Rattle.lock_db.specs.declared.askers.Asker.{Asker}
use Rattle.lock_db.specs.declared.resource.Resource.{Resource}
use Rattle.lock_db.specs.Names.{same_owner}
use Rattle.lock_db.specs.Queues.{held, goes, goes_beside}
use Rattle.lock_db.specs.Tables.{resource_at, IsTable}
use Rattle.lock_db.proofs.Lists.{list_all-find, find-passes, or-right}
use Rattle.lock_db.proofs.Owners.{same_owner-same}
use Rattle.lock_db.proofs.Together.{lets, goes-held}
use Rattle.lock_db.proofs.Steps.{IsSettled-at, HasLock, HasLock-lock_of}
use Rattle.base_words.specs.Lists.{Has}
use Rattle.base_words.proofs.Listing.{same_or_not}
use Rattle.node_locks.specs.Held.{system_of, Row, IsGranted, AreHeld, all_held}
use Rattle.node_locks.proofs.Keeping.{held_are_granted}
use Rattle.node_locks.proofs.Nodes.{systems-apart}
use Rattle.core_state.proofs.Rows.{lock_granted}

-- EX does not go with CR or more
never_together : (b : Mode) → rank CR ≤ rank b → compatible_modes EX b ≡ true → ⊥
never_together b le c = grind arith

-- two nodes' locks on a name go together
beside : (t : List Resource) (name : LockName) (n m : ℕ) (a b : Mode) → IsTable t → m ≢ n → IsGranted t n (name, a) → IsGranted t m (name, b) → compatible_modes a b ≡ true
beside t name n m a b is d g k =
    let xs : List Asker = (resource_at name t).askers in
    let s = IsSettled-at name t is in
    let one : HasLock (system_of n) a xs = HasLock-lock_of (system_of n) a xs (lock_granted t n name a g) in
    let two : HasLock (system_of m) b xs = HasLock-lock_of (system_of m) b xs (lock_granted t m name b k) in
    let all : goes (system_of n) a xs ≡ true = goes-held (system_of n) a xs one.asker s.together one.found (ap held one.stands) in
    let own : two.asker.owner ≡ system_of m = same_owner-same two.asker.owner (system_of m) (find-passes (λ (x : Asker). same_owner x.owner (system_of m)) xs two.asker two.found) in
    let other : same_owner two.asker.owner (system_of n) ≡ false = rw own (systems-apart n m (λ e. d (sym e))) in
    let let_by : lets (system_of n) a two.asker ≡ true = list_all-find (lets (system_of n) a) (λ (x : Asker). same_owner x.owner (system_of m)) xs two.asker all two.found in
    let goes_by : goes_beside a (held two.asker.standing) ≡ true = or-right (same_owner two.asker.owner (system_of n)) (goes_beside a (held two.asker.standing)) let_by other in
    rw two.stands at goes_by

pub exclusive_is_sole : (t : List Resource) (n m : ℕ) (name : LockName) (b : Mode) (rows : ℕ → List Row) → IsTable t → AreHeld t rows → Has (all_held t n (rows n)) (name, EX) → Has (all_held t m (rows m)) (name, b) → rank CR ≤ rank b → m ≡ n
exclusive_is_sole t n m name b rows is are i j le = elim (same_or_not m n) [
  | inl e ↦ e
  | inr d ↦ absurd (never_together b le (beside t name n m EX b is d ((held_are_granted t n (name, EX) (rows n) (are n)).0 i) ((held_are_granted t m (name, b) (rows m) (are m)).0 j)))
]
