-- Who holds a lock in PW by the lock table is its node's file system.
use Rattle.std.proofs.Common.{◌≡◌, ◌∙◌, ℕ, Bool, true, false, cond, List, [], ◌∷◌, Option, Some, None, Contains, find, option_map, option_and_then, refl, sym, ap, subst, arith}
use Rattle.lock_db.specs.declared.name.LockName.{LockName}
use Rattle.lock_db.specs.declared.name.Owner.{Owner}
use Rattle.lock_db.specs.declared.askers.Asker.{Asker}
use Rattle.lock_db.specs.declared.resource.Resource.{Resource}
use Rattle.lock_db.specs.Names.{same_owner}
use Rattle.lock_db.specs.Queues.{held}
use Rattle.lock_db.specs.Tables.{IsTable, resource_at}
use Rattle.lock_db.proofs.Owners.{same_owner-same}
use Rattle.lock_db.proofs.Rules.{Contains-first, Contains-later}
use Rattle.plain_cat.specs.declared.mode.Mode.{Mode}
use Rattle.plain_cat.specs.declared.mode.Mode.TheVariants.{NL, CR, CW, PR, PW, EX}
use Rattle.base_words.specs.Lists.{Has}
use Rattle.node_locks.specs.Held.{Row, system_of, HoldsItsLocks, all_held}
use Rattle.node_locks.proofs.Keeping.{holders_hold}
use Rattle.op_law.specs.Laws.{held_in}
use Rattle.core_space.specs.Rule.{is_writer}
use Rattle.core_state.specs.Caches.{writes_at}
use Rattle.core_state.proofs.Holding.{is_in_held}

-- who is found is there, and is the owner
found_there : (owner : Owner) (xs : List Asker) (a : Asker) → find (λ (x : Asker). same_owner x.owner owner) xs ≡ Some a → Contains xs a × (a.owner ≡ owner)
found_there owner [] a e = absurd (let f : None ≡ Some a = e in cc)
found_there owner (x ∷ xs) a e = by_test (same_owner x.owner owner) refl (found_there owner xs a) e where
  asker_is : (p q : Asker) → Some p ≡ Some q → p ≡ q
  asker_is p q f = ap asker_in f where
    asker_in : Option Asker → Asker
    asker_in None = p
    asker_in (Some y) = y

  by_test : (b : Bool) → same_owner x.owner owner ≡ b → (find (λ (y : Asker). same_owner y.owner owner) xs ≡ Some a → Contains xs a × (a.owner ≡ owner)) → cond b (Some x) (find (λ (y : Asker). same_owner y.owner owner) xs) ≡ Some a → Contains (x ∷ xs) a × (a.owner ≡ owner)
  by_test true t rest f =
      let same : x ≡ a = asker_is x a f in
      (subst (Contains (x ∷ xs)) same (Contains-first x xs), ap (λ (y : Asker). y.owner) (sym same) ∙ same_owner-same x.owner owner t)
  by_test false t rest f = let h = rest f in (Contains-later x xs a h.0, h.1)

pub pw_is : (o : Option Mode) → is_writer o ≡ true → o ≡ Some PW
pw_is None e = absurd (let f : false ≡ true = e in cc)
pw_is (Some NL) e = absurd (let f : false ≡ true = e in cc)
pw_is (Some CR) e = absurd (let f : false ≡ true = e in cc)
pw_is (Some CW) e = absurd (let f : false ≡ true = e in cc)
pw_is (Some PR) e = absurd (let f : false ≡ true = e in cc)
pw_is (Some PW) e = refl
pw_is (Some EX) e = absurd (let f : false ≡ true = e in cc)

-- The file system of node n, which holds a lock in PW by the table, has it among the locks of its rows.
pub holds_to_write : (t : List Resource) (n : ℕ) (name : LockName) (rows : List Row) → IsTable t → HoldsItsLocks t n rows → writes_at n (resource_at name t) ≡ true → Has (held_in PW (all_held t n rows)) name
holds_to_write t n name rows table holds e = by_found (find (λ (x : Asker). same_owner x.owner (system_of n)) xs) refl e where
  xs : List Asker
  xs = (resource_at name t).askers

  by_found : (o : Option Asker) → find (λ (x : Asker). same_owner x.owner (system_of n)) xs ≡ o → is_writer (option_and_then held (option_map (λ (x : Asker). x.standing) o)) ≡ true → Has (held_in PW (all_held t n rows)) name
  by_found None f g = absurd (let h : false ≡ true = g in cc)
  by_found (Some a) f g =
      let there = found_there (system_of n) xs a f in
      let mode : held a.standing ≡ Some PW = pw_is (held a.standing) g in
      let has : Has (all_held t n rows) (name, PW) = holders_hold t n name a PW rows table holds there.0 there.1 mode (λ h. absurd (cc)) in
      is_in_held PW (all_held t n rows) name (record { in_mode = PW; has = has; strong = omega arith })
