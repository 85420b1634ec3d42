-- The locks that a node has, in NL or more, also where a conversion of one waits: it keeps them as other nodes act.
use Rattle.std.proofs.Common.{◌≡◌, ◌∙◌, ◌∷◌, ℕ, true, false, List, [], is_some, option_and_then, refl, sym, ap, subst, inl, inr}
use Rattle.lock_db.specs.declared.name.LockName.{LockName}
use Rattle.lock_db.specs.declared.resource.Resource.{Resource}
use Rattle.lock_db.specs.Queues.{held}
use Rattle.plain_cat.specs.declared.mode.Mode.{Mode}
use Rattle.plain_cat.specs.declared.mode.Mode.TheVariants.{NL}
use Rattle.base_words.specs.Lists.{Has}
use Rattle.node_locks.specs.Held.{Row, system_of, has_lock, joined, names_of, IsGranted, HoldsItsLocks, waits_at, all_held}
use Rattle.node_locks.specs.HeldLaws.{StandsStill}
use Rattle.node_locks.proofs.Standing.{goes-still}
use Rattle.node_locks.proofs.Taking.{no-lock}
use Rattle.node_locks.proofs.Nodes.{has_name_or_not}
use Rattle.node_locks.proofs.Keeping.{held_are_granted, rows_are_granted, all_are_held}
use Rattle.core_state.specs.Worlds.{NodeState, rows_of}
use Rattle.core_state.proofs.Naming.{named_by}
use Rattle.core_state.proofs.Keeping.{LosesNothing, row_of_name}

-- a lock that a node has is in its rows
pub lock_named : (t : List Resource) (n : ℕ) (rows : List Row) (name : LockName) → HoldsItsLocks t n rows → has_lock name (system_of n) t ≡ true → Has (names_of (joined rows)) name
lock_named t n rows name holds h = elim (has_name_or_not (names_of (joined rows)) name) [
  | inl there ↦ there
  | inr none ↦ absurd (let f : true ≡ false = sym h ∙ no-lock name (system_of n) t (holds.no_other name none) in cc)
]

-- one that is granted is one that it has
granted_lasting : (t : List Resource) (n : ℕ) (l : LockName × Mode) → IsGranted t n l → has_lock l.0 (system_of n) t ≡ true
granted_lasting t n l g = ap (λ o. is_some (option_and_then held o)) g

-- so is each that it holds
pub held_lasting : (t : List Resource) (n : ℕ) (rows : List Row) (l : LockName × Mode) → HoldsItsLocks t n rows → Has (all_held t n rows) l → has_lock l.0 (system_of n) t ≡ true
held_lasting t n rows l holds h = granted_lasting t n l ((held_are_granted t n l rows holds).0 h)

-- and each of a row that waits for nothing
pub free_lasting : (t : List Resource) (n : ℕ) (rows : List Row) (ls : Row) (name : LockName) → HoldsItsLocks t n rows → Has rows ls → waits_at t n ls ≡ false → Has (names_of ls) name → has_lock name (system_of n) t ≡ true
free_lasting t n rows ls name holds among free h =
    let k = named_by ls name h in
    granted_lasting t n (name, k.0) ((rows_are_granted t n (name, k.0) ls rows holds among).0 (subst (λ (xs : Row). Has xs (name, k.0)) (sym (all_are_held t n ls free)) k.1)).1

-- who stands still at a name keeps its lock
pub still_lasting : (t u : List Resource) (m : ℕ) (name : LockName) → StandsStill t u m ((name, NL) ∷ []) → has_lock name (system_of m) t ≡ true → has_lock name (system_of m) u ≡ true
still_lasting t u m name still h = (goes-still t u m ((name, NL) ∷ []) still).lasting name (inl refl) h

-- and so does who loses nothing of its rows
pub goes_lasting : (t u : List Resource) (m : ℕ) (q : NodeState) (name : LockName) → HoldsItsLocks t m (rows_of q) → LosesNothing t u m q → has_lock name (system_of m) t ≡ true → has_lock name (system_of m) u ≡ true
goes_lasting t u m q name holds loses h = elim (row_of_name q name (lock_named t m (rows_of q) name holds h)) [
  | inl a ↦ (loses q.kept (inl refl)).lasting name a h
  | inr b ↦ elim b [
    | inl c ↦ (loses q.asked (inr (inl refl))).lasting name c h
    | inr d ↦ (loses q.claims (inr (inr (inl refl)))).lasting name d h
  ]
]
