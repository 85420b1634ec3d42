-- What a conversion from NL leaves of the nodes' locks.
use Rattle.std.proofs.Common.{◌≡◌, ◌≢◌, ◌⊎◌, ◌||◌, ℕ, Bool, true, false, not, List, [], ◌∷◌, Some, None, IsSome, find, option_map, option_and_then, is_some, unwrap_or, if◌then◌else◌, refl, ap, sym, cond, ◌∙◌, inl, inr, arith}
use Rattle.std.specs.List.{list_all}
use Rattle.std.proofs.lemmas.List.Folds.{list_all-map}
use Rattle.plain_cat.specs.declared.mode.Mode.{Mode}
use Rattle.plain_cat.specs.declared.mode.Mode.TheVariants.{NL, CR, CW, PR, PW, EX}
use Rattle.lock_db.specs.declared.name.LockName.{LockName}
use Rattle.lock_db.specs.declared.name.Owner.{Owner}
use Rattle.lock_db.specs.declared.askers.Standing.TheVariants.{Granted, Converting}
use Rattle.lock_db.specs.declared.askers.Asker.{Asker}
use Rattle.lock_db.specs.declared.resource.Resource.{Resource}
use Rattle.lock_db.specs.Names.{same_owner}
use Rattle.lock_db.specs.Queues.{held, wanted, is_queued, is_converting, is_waiting, head_of, goes, goes_beside, standing_so, with_standing, without as without_owner, one_grant, standing_of, lock_of}
use Rattle.lock_db.specs.Resources.{converts_at_once, written, conversion_writes, regranted, queued_up, converted_of}
use Rattle.lock_db.specs.Tables.{resource_at, converted, converts_now, IsSettled, IsTable}
use Rattle.lock_db.specs.Laws.{stands_at}
use Rattle.lock_db.proofs.Lists.{list_all-head, list_all-tail, list_all-both, contrapositive, not-true, find-push_no}
use Rattle.lock_db.proofs.Together.{lets}
use Rattle.lock_db.proofs.Heads.{own-passes, one_grant-none, one_grant-head, settled-same}
use Rattle.lock_db.proofs.Places.{written-askers}
use Rattle.lock_db.proofs.Steps.{IsSettled-at, HasLock, HasLock-lock_of, lock-is}
use Rattle.lock_db.proofs.Blocks.{converted-at, converted-leaves}
use Rattle.lock_db.proofs.Standings.{conversions-stand}
use Rattle.base_words.specs.Lists.{Has}
use Rattle.node_locks.specs.Held.{system_of, has_lock, names_of, IsGranted, IsWaiting, HoldsItsLocks, is_queued_at, taken_out, put_in}
use Rattle.node_locks.specs.HeldLaws.{ConvertingHolds}
use Rattle.node_locks.proofs.Nodes.{each, name_or_not, systems-apart}
use Rattle.node_locks.proofs.Standing.{StandsAlike, AllGranted, alike-comes, stands-still, granted-all, waits-push, held-push}
use Rattle.node_locks.proofs.Asking.{held-new}
use Rattle.node_locks.proofs.Served.{without-other, with-other, systems-owned}
use Rattle.lock_db.proofs.Owners.{owned}
use Rattle.node_locks.proofs.Rows.{AlikeBut, order-at, comes-holds}
use Rattle.node_locks.proofs.Moving.{granted-in, has-name, left-held, goes-over, rest-still}

-- ---- NL goes with every mode: who has it in NL and converts it lets nobody in

pub beside-nl : (m : Mode) → goes_beside m (Some NL) ≡ true
beside-nl NL = refl
beside-nl CR = refl
beside-nl CW = refl
beside-nl PR = refl
beside-nl PW = refl
beside-nl EX = refl

-- a queue in which the owner does not stand
pub find-granted : (p : Asker → Bool) (owner : Owner) (m : Mode) (xs : List Asker) → ((a : Asker) → p (record a { standing = Granted m }) ≡ false) → list_all (λ (x : Asker). not (same_owner x.owner owner) || not (p x)) xs ≡ true
    → find p (with_standing owner (Granted m) xs) ≡ find p xs
find-granted p owner m [] never e = refl
find-granted p owner m (a ∷ xs) never e =
    let test : Asker → Bool = λ (x : Asker). not (same_owner x.owner owner) || not (p x) in
    let rest : find p (with_standing owner (Granted m) xs) ≡ find p xs = find-granted p owner m xs never (list_all-tail test a xs e) in
    (elim (same_owner a.owner owner) as (λ b. (not b || not (p a)) ≡ true
    → cond (p (cond b (record a { standing = Granted m }) a)) (Some (cond b (record a { standing = Granted m }) a)) (find p (with_standing owner (Granted m) xs)) ≡ cond (p a) (Some a) (find p xs)) [
      | true ↦ λ k. let no : p a ≡ false = not-true (p a) k in rw (never a, no) rest
      | false ↦ λ k. rw rest refl
    ]) (list_all-head test a xs e)

either : (owner o : Owner) (w m : Mode) (x : Asker) → lets o w (standing_so owner (Granted m) x) ≡ true → (not (same_owner x.owner owner) || goes_beside w (held x.standing)) ≡ true → lets o w x ≡ true
either owner o w m x f g =
    (elim (same_owner x.owner owner) as (λ b. lets o w (cond b (record x { standing = Granted m }) x) ≡ true → (not b || goes_beside w (held x.standing)) ≡ true → lets o w x ≡ true) [
      | true ↦ λ h k. grind arith
      | false ↦ λ h k. h
    ]) f g

-- what goes beside the new mode went beside NL
goes-before : (owner o : Owner) (w m : Mode) (xs : List Asker) → list_all (λ (x : Asker). not (same_owner x.owner owner) || goes_beside w (held x.standing)) xs ≡ true → goes o w (with_standing owner (Granted m) xs) ≡ true → goes o w xs ≡ true
goes-before owner o w m xs own g =
    list_all-both (λ (x : Asker). lets o w (standing_so owner (Granted m) x)) (λ (x : Asker). not (same_owner x.owner owner) || goes_beside w (held x.standing)) (lets o w) xs
    (λ x f k. either owner o w m x f k) (sym (list_all-map (lets o w) (standing_so owner (Granted m)) xs) ∙ g) own

-- so nobody can be granted anything then
nobody-let_in : (owner : Owner) (m : Mode) (xs : List Asker) → IsSettled xs → HasLock owner NL xs → one_grant (with_standing owner (Granted m) xs) ≡ None
nobody-let_in owner m xs s h =
    let ys : List Asker = with_standing owner (Granted m) xs in
    let conv : find is_converting ys ≡ find is_converting xs = find-granted is_converting owner m xs (λ a. refl) (own-passes (λ (x : Asker). not (is_converting x)) owner xs h.asker s.together h.found (rw h.stands refl)) in
    let wait : find is_waiting ys ≡ find is_waiting xs = find-granted is_waiting owner m xs (λ a. refl) (own-passes (λ (x : Asker). not (is_waiting x)) owner xs h.asker s.together h.found (rw h.stands refl)) in
    let head : head_of ys ≡ head_of xs = rw (conv, wait) refl in
    one_grant-none ys (λ a e.
    let w : Mode = wanted a.standing in
    let own = own-passes (λ (x : Asker). goes_beside w (held x.standing)) owner xs h.asker s.together h.found (rw h.stands (beside-nl w)) in
    contrapositive (goes a.owner w ys) (goes a.owner w xs) (λ g. goes-before owner a.owner w m xs own g) (one_grant-head xs a s.idle (sym head ∙ e)))

-- another owner stands after the conversion as it stood
converted-beside : (owner other : Owner) (m : Mode) (value : List ℕ) (r : Resource) → IsSettled r.askers → lock_of owner r.askers ≡ Some NL → same_owner owner other ≡ false → ((a : Asker) → same_owner a.owner owner ≡ true → same_owner a.owner other ≡ false)
    → standing_of other (converted_of owner m value r).askers ≡ standing_of other r.askers
converted-beside owner other m value r s l not_it apart =
    let xs : List Asker = r.askers in
    let h : HasLock owner NL xs = HasLock-lock_of owner NL xs l in
    rw (lock-is owner r NL l) (
    (elim (converts_at_once owner NL m xs) as (λ b. standing_of other (if b then written (conversion_writes NL m) value (regranted owner m r) else queued_up owner NL m r).askers ≡ standing_of other xs) [
      | true ↦
          ap (standing_of other) (written-askers (conversion_writes NL m) value (regranted owner m r) ∙ settled-same (with_standing owner (Granted m) xs) (nobody-let_in owner m xs s h))
          ∙ with-other owner other (Granted m) xs apart
      | false ↦
          let b : Asker = record { owner = owner; standing = Converting NL m } in
          ap (option_map (λ (a : Asker). a.standing)) (find-push_no (owned other) (without_owner owner xs) b not_it) ∙ without-other owner other xs apart
    ]))

pub converted-elsewhere : (name other : LockName) (n m : ℕ) (mode : Mode) (value : List ℕ) (t : List Resource) → other ≢ name → stands_at other (system_of m) (converted name (system_of n) mode value t) ≡ stands_at other (system_of m) t
converted-elsewhere name other n m mode value t d = ap (λ (r : Resource). standing_of (system_of m) r.askers) (converted-leaves name (system_of n) mode value t other d)

-- the other nodes stand as they stood
pub converted-others : (name : LockName) (n m : ℕ) (mode : Mode) (value : List ℕ) (t : List Resource) → IsTable t → lock_of (system_of n) (resource_at name t).askers ≡ Some NL → m ≢ n → StandsAlike m t (converted name (system_of n) mode value t)
converted-others name n m mode value t is l d other = elim (name_or_not other name) [ inl e ↦ rw e here | inr ne ↦ converted-elsewhere name other n m mode value t ne ] where
  here : stands_at name (system_of m) (converted name (system_of n) mode value t) ≡ stands_at name (system_of m) t
  here =
      let r : Resource = resource_at name t in
      let some : IsSome (lock_of (system_of n) r.askers) = rw l refl in
      ap (λ (q : Resource). standing_of (system_of m) q.askers) (converted-at name (system_of n) mode value t some)
      ∙ converted-beside (system_of n) (system_of m) mode value r (IsSettled-at name t is) l (systems-apart m n d) (systems-owned m n d)

-- ---- the conversion

-- the new lock is granted or waits
converts-stands : (u : List Resource) (n : ℕ) (l : LockName × Mode) (now : Bool) → stands_at l.0 (system_of n) u ≡ Some (if now then Granted l.1 else Converting NL l.1) → IsGranted u n l ⊎ IsWaiting u n l
converts-stands u n l true e = inl e
converts-stands u n l false e = inr (inr e)

converts-queued : (u : List Resource) (n : ℕ) (l : LockName × Mode) (now : Bool) → stands_at l.0 (system_of n) u ≡ Some (if now then Granted l.1 else Converting NL l.1) → is_queued_at u n l ≡ not now
converts-queued u n l true e = ap (λ o. unwrap_or (option_map is_queued o) false) e
converts-queued u n l false e = ap (λ o. unwrap_or (option_map is_queued o) false) e

converts-lasting : (u : List Resource) (n : ℕ) (l : LockName × Mode) (now : Bool) → stands_at l.0 (system_of n) u ≡ Some (if now then Granted l.1 else Converting NL l.1) → has_lock l.0 (system_of n) u ≡ true
converts-lasting u n l true e = ap (λ o. is_some (option_and_then held o)) e
converts-lasting u n l false e = ap (λ o. is_some (option_and_then held o)) e

pub converting_holds : ConvertingHolds
converting_holds t n i k ls ms l value own rows is held at_own from has left to idle =
    let u : List Resource = converted l.0 (system_of n) l.1 value t in
    let h : HoldsItsLocks t n own = rw at_own at (held n) in
    let was : AllGranted t n ls = granted-all t n ls (order-at t n own i ls h.in_order from) left in
    let granted : IsGranted t n (l.0, NL) = granted-in t n ls (l.0, NL) was has in
    let lock : lock_of (system_of n) (resource_at l.0 t).askers ≡ Some NL = rw granted refl in
    let now : Bool = converts_now l.0 (system_of n) l.1 t in
    let new : stands_at l.0 (system_of n) u ≡ Some (if now then Granted l.1 else Converting NL l.1) = conversions-stand l.0 (system_of n) NL l.1 value t is lock (λ e. cc) in
    let named : Has (names_of ls) l.0 = has-name ls (l.0, NL) has in
    let alike : AlikeBut l.0 n t u = λ other d. converted-elsewhere l.0 other n n l.1 value t d in
    let queued : is_queued_at u n l ≡ not now = converts-queued u n l now new in
    let others : (m : ℕ) → m ≢ n → StandsAlike m t u = λ m d. converted-others l.0 n m l.1 value t is lock d in
    record {
      held = each (λ m v. HoldsItsLocks u m v) rows n (put_in k l (taken_out i l.0 own)) (goes-over t u n i k ls ms l own h from named to idle alike (converts-stands u n l now new))
          (λ m d. comes-holds m t u (rows m) (alike-comes m t u (others m d)) (held m));
      left = left-held l.0 t u n ls alike was;
      waits = waits-push u n ms l ∙ queued;
      last = held-push u n ms l ∙ held-new ms l (is_queued_at u n l) now queued;
      lasting = converts-lasting u n l now new;
      rest = λ j xs d e at. rest-still l.0 t u n i j ls xs own h from named alike d at;
      others = λ m xs d. stands-still m t u xs (λ name j. others m d name);
    }
