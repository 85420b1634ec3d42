-- The value block of a lock that another node has, as a node gives back its locks with their value blocks as they are.
use Rattle.std.proofs.Common.{◌≡◌, ◌≢◌, ◌⊎◌, ◌∙◌, ℕ, Bool, true, false, cond, not, List, [], ◌∷◌, Some, None, is_some, find, refl, sym, ap, subst, inl, inr, arith}
use Rattle.std.proofs.lemmas.Bool.Decides.{nat_tests}
use Rattle.std.specs.Option.{option_map}
use Rattle.lock_db.specs.declared.name.LockName.{LockName}
use Rattle.lock_db.specs.declared.name.Owner.{Owner}
use Rattle.lock_db.specs.declared.askers.Asker.{Asker}
use Rattle.lock_db.specs.declared.resource.Resource.{Resource}
use Rattle.lock_db.specs.Names.{same_owner}
use Rattle.lock_db.proofs.Owners.{same_owner-same}
use Rattle.lock_db.specs.Queues.{is_writing, without, lock_of, standing_of}
use Rattle.lock_db.specs.Tables.{resource_at, released}
use Rattle.lock_db.specs.Laws.{stands_at, BlockStays, somebody}
use Rattle.lock_db.proofs.Blocks.{released-leaves}
use Rattle.plain_cat.specs.declared.mode.Mode.{Mode}
use Rattle.base_words.specs.Lists.{Has, Once}
use Rattle.std.specs.List.{AllByRecursion}
use Rattle.node_locks.specs.Held.{Row, system_of, joined, names_of, IsGranted, IsWaiting, StandInOrder, HoldsItsLocks}
use Rattle.node_locks.proofs.Standing.{stands-named}
use Rattle.core_state.specs.Events.{left_alone}
use Rattle.core_state.proofs.Keeping.{names_parted}
use Rattle.core_state.proofs.Naming.{same_name}
use Rattle.core_state.proofs.CachedTables.{Shared, put_back_block}

-- somebody else is at a lock
pub somebody_else : (n m : ℕ) → m ≢ n → (xs : List Asker) → is_some (standing_of (system_of m) xs) ≡ true → somebody (without (system_of n) xs) ≡ true
somebody_else n m ne [] e = absurd (let f : false ≡ true = e in cc)
somebody_else n m ne (x ∷ xs) e = by_tests (same_owner x.owner (system_of m)) (same_owner x.owner (system_of n)) refl refl (somebody_else n m ne xs) e where
  some_one : (ys : List Asker) → somebody (x ∷ ys) ≡ true
  some_one ys = grind (arith, nat_tests)

  by_tests : (a b : Bool) → same_owner x.owner (system_of m) ≡ a → same_owner x.owner (system_of n) ≡ b → (is_some (standing_of (system_of m) xs) ≡ true → somebody (without (system_of n) xs) ≡ true)
      → is_some (option_map (λ (y : Asker). y.standing) (cond a (Some x) (find (λ (y : Asker). same_owner y.owner (system_of m)) xs))) ≡ true → somebody (cond (not b) (x ∷ without (system_of n) xs) (without (system_of n) xs)) ≡ true
  by_tests true true p q rest f = absurd (ne (ap (λ (o : Owner). o.node) (sym (same_owner-same x.owner (system_of m) p) ∙ same_owner-same x.owner (system_of n) q)))
  by_tests a false p q rest f = some_one (without (system_of n) xs)
  by_tests false true p q rest f = rest f

-- a node stands at each name of its rows
stands_some : (t : List Resource) (m : ℕ) (l : LockName × Mode) → IsGranted t m l ⊎ IsWaiting t m l → is_some (stands_at l.0 (system_of m) t) ≡ true
stands_some t m l (inl g) = ap is_some g
stands_some t m l (inr (inl w)) = ap is_some w
stands_some t m l (inr (inr w)) = ap is_some w

pub rows_stand : (t : List Resource) (m : ℕ) (rows : List Row) (name : LockName) → AllByRecursion (StandInOrder t m) rows → Has (names_of (joined rows)) name → is_some (stands_at name (system_of m) t) ≡ true
rows_stand t m [] name s h = absurd h
rows_stand t m (ls ∷ rows) name s h = elim (names_parted ls (joined rows) name h) [
  | inl a ↦ let f = stands-named t m ls name s.0 a in subst (λ (k : LockName). is_some (stands_at k (system_of m) t) ≡ true) f.1 (stands_some t m f.0 f.2)
  | inr b ↦ rows_stand t m rows name s.1 b
]

-- so somebody else than node n is at a name of another node's rows
pub somebody_there : (t : List Resource) (n m : ℕ) (rows : List Row) (name : LockName) → m ≢ n → HoldsItsLocks t m rows → Has (names_of (joined rows)) name → somebody (without (system_of n) (resource_at name t).askers) ≡ true
somebody_there t n m rows name ne holds h = somebody_else n m ne (resource_at name t).askers (rows_stand t m rows name holds.in_order h)

-- the names of other locks are left
left_elsewhere : (n : ℕ) (ls : Row) (t : List Resource) (name : LockName) → (Has (names_of ls) name → ⊥) → resource_at name (left_alone n ls t) ≡ resource_at name t
left_elsewhere n [] t name none = refl
left_elsewhere n (l ∷ ls) t name none =
    left_elsewhere n ls (released l.0 (system_of n) (resource_at l.0 t).value t) name (λ h. none (inr h)) ∙ released-leaves l.0 (system_of n) (resource_at l.0 t).value t name (λ e. none (inl (sym e)))

has_name : (ls : Row) (l : LockName × Mode) → Has ls l → Has (names_of ls) l.0
has_name [] l h = absurd h
has_name (k ∷ ls) l (inl e) = inl (ap (λ (y : LockName × Mode). y.0) e)
has_name (k ∷ ls) l (inr h) = inr (has_name ls l h)

-- The value block of a lock that somebody else has stays, where the lock is not given back from a mode that writes it.
pub left_stays : (n : ℕ) (ls : Row) (t : List Resource) (name : LockName) → Once (names_of ls) → ((l : LockName × Mode) → Has ls l → lock_of (system_of n) (resource_at l.0 t).askers ≡ Some l.1)
    → ((l : LockName × Mode) → Has ls l → l.0 ≡ name → is_writing l.1 ≡ false) → somebody (without (system_of n) (resource_at name t).askers) ≡ true → BlockStays (resource_at name t) (resource_at name (left_alone n ls t))
left_stays n [] t name once granted low some = record { bytes = refl; mark = refl }
left_stays n (l ∷ ls) t name once granted low some = elim (same_name l.0 name) [
  | inl is ↦
      let here : BlockStays (resource_at l.0 t) (resource_at l.0 (released l.0 (system_of n) (resource_at l.0 t).value t)) = put_back_block n t l (resource_at l.0 t).value (granted l (inl refl)) None (Shared refl (subst (λ (k : LockName). somebody (without (system_of n) (resource_at k t).askers) ≡ true) (sym is) some)) false (low l (inl refl) is) in
      let at : BlockStays (resource_at name t) (resource_at name (released l.0 (system_of n) (resource_at l.0 t).value t)) = subst (λ (k : LockName). BlockStays (resource_at k t) (resource_at k (released l.0 (system_of n) (resource_at l.0 t).value t))) is here in
      let rest : resource_at name (left_alone n ls (released l.0 (system_of n) (resource_at l.0 t).value t)) ≡ resource_at name (released l.0 (system_of n) (resource_at l.0 t).value t) = left_elsewhere n ls (released l.0 (system_of n) (resource_at l.0 t).value t) name (λ h. once.0 (subst (Has (names_of ls)) (sym is) h)) in
      subst (BlockStays (resource_at name t)) (sym rest) at
  | inr ne ↦
      let same : resource_at name (released l.0 (system_of n) (resource_at l.0 t).value t) ≡ resource_at name t = released-leaves l.0 (system_of n) (resource_at l.0 t).value t name (λ e. ne (sym e)) in
      subst (λ (r : Resource). BlockStays r (resource_at name (left_alone n ls (released l.0 (system_of n) (resource_at l.0 t).value t)))) same
      (left_stays n ls (released l.0 (system_of n) (resource_at l.0 t).value t) name once.1 (λ k h. ap (λ (r : Resource). lock_of (system_of n) r.askers) (released-leaves l.0 (system_of n) (resource_at l.0 t).value t k.0 (λ e. once.0 (subst (Has (names_of ls)) e (has_name ls k h)))) ∙ granted k (inr h))
      (λ k h e. low k (inr h) e) (ap (λ (r : Resource). somebody (without (system_of n) r.askers)) same ∙ some))
]
