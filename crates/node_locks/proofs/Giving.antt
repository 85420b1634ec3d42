-- What a release leaves of the nodes' locks.
use Rattle.std.proofs.Common.{◌≡◌, ◌≢◌, ℕ, true, not, List, ap, ◌∙◌, inl, inr}
use Rattle.lock_db.specs.declared.name.LockName.{LockName}
use Rattle.lock_db.specs.declared.askers.Asker.{Asker}
use Rattle.lock_db.specs.declared.resource.Resource.{Resource}
use Rattle.lock_db.specs.Queues.{without as without_owner, settled, standing_of}
use Rattle.lock_db.specs.Resources.{released_of}
use Rattle.lock_db.specs.Tables.{resource_at, all_together, released, IsTable}
use Rattle.lock_db.specs.Laws.{stands_at}
use Rattle.lock_db.proofs.Together.{all_together-filter}
use Rattle.lock_db.proofs.Places.{written-askers}
use Rattle.lock_db.proofs.Steps.{IsSettled-at}
use Rattle.lock_db.proofs.Blocks.{released-at, released-leaves}
use Rattle.lock_db.proofs.Standings.{releases-leave}
use Rattle.node_locks.specs.Held.{system_of, HoldsItsLocks, taken_out}
use Rattle.node_locks.specs.HeldLaws.{GivingHolds}
use Rattle.node_locks.proofs.Standing.{ComesTo, AllGranted, granted-all, comes-on}
use Rattle.node_locks.proofs.Nodes.{each, name_or_not}
use Rattle.node_locks.proofs.Served.{vacated-standing, without-other, systems-owned, settled-served, served-comes}
use Rattle.lock_db.proofs.Owners.{owned}
use Rattle.lock_db.proofs.Owners.{Served}
use Rattle.node_locks.proofs.Rows.{AlikeBut, order-at, order-of, but-taken, but-later, but-gone, comes-holds}
use Rattle.node_locks.proofs.Moving.{left-held, rest-still}

-- how another node stands at the name after the release
released-there : (name : LockName) (n m : ℕ) (value : List ℕ) (t : List Resource) → m ≢ n
    → stands_at name (system_of m) (released name (system_of n) value t) ≡ standing_of (system_of m) (settled (without_owner (system_of n) (resource_at name t).askers))
released-there name n m value t d =
    let r : Resource = resource_at name t in
    ap (λ (s : Resource). standing_of (system_of m) s.askers) (released-at name (system_of n) value t)
    ∙ vacated-standing (system_of m) (released_of (system_of n) value r)
    ∙ ap (standing_of (system_of m)) (written-askers _ value (record r { askers = settled (without_owner (system_of n) r.askers) }))

released-elsewhere : (name other : LockName) (n m : ℕ) (value : List ℕ) (t : List Resource) → other ≢ name → stands_at other (system_of m) (released name (system_of n) value t) ≡ stands_at other (system_of m) t
released-elsewhere name other n m value t d = ap (λ (r : Resource). standing_of (system_of m) r.askers) (released-leaves name (system_of n) value t other d)

released-served : (name other : LockName) (n m : ℕ) (value : List ℕ) (t : List Resource) → IsTable t → m ≢ n → Served (stands_at other (system_of m) t) (stands_at other (system_of m) (released name (system_of n) value t))
released-served name other n m value t is d = elim (name_or_not other name) [ inl e ↦ rw e here | inr ne ↦ inl (released-elsewhere name other n m value t ne) ] where
  here : Served (stands_at name (system_of m) t) (stands_at name (system_of m) (released name (system_of n) value t))
  here =
      let xs : List Asker = (resource_at name t).askers in
      let k = IsSettled-at name t is in
      let together : all_together (without_owner (system_of n) xs) ≡ true = all_together-filter (λ a. not (owned (system_of n) a)) xs k.together in
      let served : Served (standing_of (system_of m) (without_owner (system_of n) xs)) (standing_of (system_of m) (settled (without_owner (system_of n) xs))) = settled-served (system_of m) (without_owner (system_of n) xs) together in
      rw (released-there name n m value t d) (rw (without-other (system_of n) (system_of m) xs (systems-owned m n d)) at served)

pub giving_holds : GivingHolds
giving_holds t n i ls name value own rows is held at_own from has idle =
    let u : List Resource = released name (system_of n) value t in
    let h : HoldsItsLocks t n own = rw at_own at (held n) in
    let was : AllGranted t n ls = granted-all t n ls (order-at t n own i ls h.in_order from) idle in
    let alike : AlikeBut name n t u = λ other d. released-elsewhere name other n n value t d in
    let after : HoldsItsLocks u n (taken_out i name own) =
    but-gone name u n (taken_out i name own) (λ other. name_or_not other name) (but-later name t u n (taken_out i name own) alike (but-taken name t n own i ls h from has)) (releases-leave name (system_of n) value t) in
    let comes : (m : ℕ) → m ≢ n → ComesTo m t u = λ m d. served-comes m t u (λ other. released-served name other n m value t is d) in
    record {
      held = each (λ m v. HoldsItsLocks u m v) rows n (taken_out i name own) after (λ m d. comes-holds m t u (rows m) (comes m d) (held m));
      left = left-held name t u n ls alike was;
      rest = λ j xs d at. rest-still name t u n i j ls xs own h from has alike d at;
      others = λ m xs d j. let o : HoldsItsLocks t m (rows m) = held m in comes-on m t u xs (comes m d) (order-of t m (rows m) xs o.in_order j);
    }
