-- What is left where a lock is lowered.
use Rattle.std.proofs.Common.{◌≡◌, ◌≢◌, ℕ, true, false, List, [], ◌∷◌, ◌++◌, Some, IsSome, if◌then◌else◌, refl, ap, inl, inr}
use Rattle.plain_cat.specs.declared.mode.Mode.{Mode}
use Rattle.plain_cat.specs.declared.mode.Mode.TheVariants.{CW, PR}
use Rattle.lock_db.specs.declared.name.LockName.{LockName}
use Rattle.lock_db.specs.declared.name.Owner.{Owner}
use Rattle.lock_db.specs.declared.askers.Standing.TheVariants.{Granted, Converting}
use Rattle.lock_db.specs.declared.askers.Asker.{Asker}
use Rattle.lock_db.specs.declared.resource.Resource.{Resource}
use Rattle.lock_db.specs.Names.{same_owner}
use Rattle.lock_db.specs.Queues.{is_upward, with_standing, settled, standing_of, lock_of}
use Rattle.lock_db.specs.Resources.{converts_at_once, conversion_writes, regranted, converted_of}
use Rattle.lock_db.specs.Tables.{resource_at, all_together, converted, converts_now, IsSettled, IsTable}
use Rattle.lock_db.specs.Laws.{stands_at}
use Rattle.lock_db.proofs.Together.{all_together-granted}
use Rattle.lock_db.proofs.Places.{written-askers}
use Rattle.lock_db.proofs.Steps.{IsSettled-at, HasLock, HasLock-lock_of, lock-is, converts-goes}
use Rattle.lock_db.proofs.Blocks.{converted-at}
use Rattle.lock_db.proofs.Standings.{conversions-stand}
use Rattle.base_words.specs.Lists.{Has}
use Rattle.node_locks.specs.Held.{system_of, names_of, IsGranted, HoldsItsLocks, taken_out, put_in}
use Rattle.node_locks.specs.HeldLaws.{LoweringHolds}
use Rattle.node_locks.proofs.Nodes.{each, name_or_not}
use Rattle.node_locks.proofs.Standing.{ComesTo, AllGranted, comes-on, granted-all}
use Rattle.node_locks.proofs.Served.{with-other, systems-owned, settled-served, served-comes}
use Rattle.lock_db.proofs.Owners.{Served}
use Rattle.node_locks.proofs.Rows.{AlikeBut, order-at, order-of, comes-holds}
use Rattle.node_locks.proofs.Moving.{granted-in, has-name, is-held, left-held, to-granted, goes-over, rest-still, granted-push}
use Rattle.node_locks.proofs.Converting.{converted-elsewhere}

-- another owner stands after the lowering as it stood, or is granted what it waited for
lowered-beside : (owner other : Owner) (old low : Mode) (value : List ℕ) (r : Resource) → IsSettled r.askers → lock_of owner r.askers ≡ Some old → is_upward old low ≡ false → (old ≡ PR → low ≡ CW → ⊥)
    → ((a : Asker) → same_owner a.owner owner ≡ true → same_owner a.owner other ≡ false) → Served (standing_of other r.askers) (standing_of other (converted_of owner low value r).askers)
lowered-beside owner other old low value r s l down across apart =
    let xs : List Asker = r.askers in
    let ys : List Asker = with_standing owner (Granted low) xs in
    let h : HasLock owner old xs = HasLock-lock_of owner old xs l in
    let now : converts_at_once owner old low xs ≡ true = rw down refl in
    let together : all_together ys ≡ true = all_together-granted owner low xs s.together (converts-goes owner old low xs s.together h across now) in
    let served : Served (standing_of other ys) (standing_of other (settled ys)) = settled-served other ys together in
    let before : standing_of other ys ≡ standing_of other xs = with-other owner other (Granted low) xs apart in
    let after : standing_of other (converted_of owner low value r).askers ≡ standing_of other (settled ys) =
    rw (lock-is owner r old l, now) (ap (standing_of other) (written-askers (conversion_writes old low) value (regranted owner low r))) in
    rw after (rw before at served)

lowered-served : (name other : LockName) (n m : ℕ) (old low : Mode) (value : List ℕ) (t : List Resource) → IsTable t → lock_of (system_of n) (resource_at name t).askers ≡ Some old → is_upward old low ≡ false → (old ≡ PR → low ≡ CW → ⊥) → m ≢ n
    → Served (stands_at other (system_of m) t) (stands_at other (system_of m) (converted name (system_of n) low value t))
lowered-served name other n m old low value t is l down across d = elim (name_or_not other name) [ inl e ↦ rw e here | inr ne ↦ inl (converted-elsewhere name other n m low value t ne) ] where
  here : Served (stands_at name (system_of m) t) (stands_at name (system_of m) (converted name (system_of n) low value t))
  here =
      let r : Resource = resource_at name t in
      let some : IsSome (lock_of (system_of n) r.askers) = rw l refl in
      let at : stands_at name (system_of m) (converted name (system_of n) low value t) ≡ standing_of (system_of m) (converted_of (system_of n) low value r).askers =
      ap (λ (q : Resource). standing_of (system_of m) q.askers) (converted-at name (system_of n) low value t some) in
      rw at (lowered-beside (system_of n) (system_of m) old low value r (IsSettled-at name t is) l down across (systems-owned m n d))

pub lowering_holds : LoweringHolds
lowering_holds t n i k ls ms l low value own rows is held at_own from has left down across to idle =
    let u : List Resource = converted l.0 (system_of n) low value t in
    let h : HoldsItsLocks t n own = rw at_own at (held n) in
    let was : AllGranted t n ls = granted-all t n ls (order-at t n own i ls h.in_order from) left in
    let granted : IsGranted t n l = granted-in t n ls l was has in
    let lock : lock_of (system_of n) (resource_at l.0 t).askers ≡ Some l.1 = rw granted refl in
    let now : converts_now l.0 (system_of n) low t ≡ true = rw (lock-is (system_of n) (resource_at l.0 t) l.1 lock, down) refl in
    let stands : stands_at l.0 (system_of n) u ≡ Some (if converts_now l.0 (system_of n) low t then Granted low else Converting l.1 low) = conversions-stand l.0 (system_of n) l.1 low value t is lock across in
    let new : IsGranted u n (l.0, low) = rw now at stands in
    let named : Has (names_of ls) l.0 = has-name ls l has in
    let alike : AlikeBut l.0 n t u = λ other d. converted-elsewhere l.0 other n n low value t d in
    let comes : (m : ℕ) → m ≢ n → ComesTo m t u = λ m d. served-comes m t u (λ name. lowered-served l.0 name n m l.1 low value t is lock down across d) in
    record {
      held = each (λ m v. HoldsItsLocks u m v) rows n (put_in k (l.0, low) (taken_out i l.0 own)) (goes-over t u n i k ls ms (l.0, low) own h from named to idle alike (inl new))
          (λ m d. comes-holds m t u (rows m) (comes m d) (held m));
      left = left-held l.0 t u n ls alike was;
      last = is-held u n (ms ++ (l.0, low) ∷ []) (granted-push u n ms (l.0, low) (to-granted t u n i k ls ms (l.0, low) own h from named to idle alike (inl new)) new);
      rest = λ j xs d e at. rest-still l.0 t u n i j ls xs own h from named alike d at;
      others = λ m xs d i. let o : HoldsItsLocks t m (rows m) = held m in comes-on m t u xs (comes m d) (order-of t m (rows m) xs o.in_order i);
    }
