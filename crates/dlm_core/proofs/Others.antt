-- How a call on a name leaves its owner and all others there.
use Rattle.std.proofs.Common.{◌≡◌, ◌==◌, ◌||◌, ◌⊎◌, inl, inr, ℕ, zero, suc, Bool, true, false, not, List, [], ◌∷◌, Option, Some, None, IsSome, find, length, refl, arith, cond, ap, sym, ◌∙◌, if◌then◌else◌, unwrap_or, option_map, option_and_then}
use Rattle.plain_cat.specs.declared.mode.Mode.{Mode}
use Rattle.plain_cat.specs.declared.mode.Mode.TheVariants.{PR}
use Rattle.lock_db.specs.declared.name.LockName.{LockName}
use Rattle.lock_db.specs.declared.name.Owner.{Owner}
use Rattle.lock_db.specs.declared.askers.Standing.{Standing}
use Rattle.lock_db.specs.declared.askers.Standing.TheVariants.{Granted, Converting, Waiting}
use Rattle.lock_db.specs.declared.askers.Asker.{Asker}
use Rattle.lock_db.specs.declared.resource.Resource.{Resource}
use Rattle.lock_db.specs.Names.{same_owner}
use Rattle.lock_db.specs.Queues.{held, wanted, is_queued, standing_so, with_standing, without, one_grant, granted_upto, settled, standing_of, lock_of, settled_mode, mode_of, is_writing, queues}
use Rattle.lock_db.specs.Resources.{is_used, goes_at_once, first_standing, converts_at_once, written, conversion_writes, regranted, queued_up, mode_held, converted_of, released_of}
use Rattle.lock_db.specs.Tables.{resource_at, asked, converted, released, all_together, IsTable, converts_now}
use Rattle.lock_db.specs.Laws.{LeavesOthers}
use Rattle.lock_db.proofs.Lists.{find-push_no, find-filter, list_all-every}
use Rattle.lock_db.proofs.Owners.{same_owner-same, owned, Served}
use Rattle.lock_db.proofs.Together.{all_together-filter, all_together-granted}
use Rattle.lock_db.proofs.Heads.{one_grant-some}
use Rattle.lock_db.proofs.Order.{vacated}
use Rattle.lock_db.proofs.Places.{written-askers, used-asked, used-converted}
use Rattle.lock_db.proofs.Steps.{IsSettled-at, HasLock-lock_of, converts-goes, lock-is, IsTable-asked, IsTable-converted}
use Rattle.lock_db.proofs.Blocks.{asked-at, converted-at, released-at, asked-leaves, converted-leaves}
use Rattle.lock_db.proofs.Standings.{grants-serve, requests-stand, conversions-stand}
use Rattle.dlm_core.specs.declared.messages.Message.{Message}
use Rattle.dlm_core.specs.Modes.{is_across, is_lowering, lowers, crosses}
use Rattle.dlm_core.specs.Steps.{stands_as, ask_fits, ask_made, drop_made}
use Rattle.dlm_core.specs.Lanes.{queued_as}
use Rattle.dlm_core.proofs.Modes.{lowering-not_up, across-not}

find-with : (owner other : Owner) (s : Standing) (xs : List Asker) → same_owner other owner ≡ false → find (owned owner) (with_standing other s xs) ≡ find (owned owner) xs
find-with owner other s [] n = refl
find-with owner other s (a ∷ xs) n =
    let rest = find-with owner other s xs n in
    (elim (same_owner a.owner other) as (λ b. same_owner a.owner other ≡ b → find (owned owner) (cond b (record a { standing = s }) a ∷ with_standing other s xs) ≡ find (owned owner) (a ∷ xs)) [
      | true ↦ λ e.
          let is : a.owner ≡ other = same_owner-same a.owner other e in
          let no : same_owner a.owner owner ≡ false = rw is n in
          rw no rest
      | false ↦ λ e. ap (λ (f : Option Asker). cond (same_owner a.owner owner) (Some a) f) rest
    ]) refl

with-none : (owner other : Owner) (s : Standing) (xs : List Asker) → find (owned owner) xs ≡ None → find (owned owner) (with_standing other s xs) ≡ None
with-none owner other s [] f = refl
with-none owner other s (a ∷ xs) f =
    let rest : find (owned owner) xs ≡ None → find (owned owner) (with_standing other s xs) ≡ None = with-none owner other s xs in
    let same : owned owner (standing_so other s a) ≡ owned owner a = (elim (same_owner a.owner other) as (λ b. owned owner (cond b (record a { standing = s }) a) ≡ owned owner a) [ true ↦ refl | false ↦ refl ]) in
    rw same (
    (elim (owned owner a) as (λ b. cond b (Some a) (find (owned owner) xs) ≡ None → cond b (Some (standing_so other s a)) (find (owned owner) (with_standing other s xs)) ≡ None) [ true ↦ λ g. cc | false ↦ rest ]) f)

granted_upto-none : (k : ℕ) (owner : Owner) (xs : List Asker) → find (owned owner) xs ≡ None → find (owned owner) (granted_upto k xs) ≡ None
unfolding granted_upto
granted_upto-none zero owner xs f = f
granted_upto-none (suc k) owner xs f =
    (elim (one_grant xs) as (λ o. one_grant xs ≡ o → find (owned owner) (unwrap_or (option_map (granted_upto k) o) xs) ≡ None) [
      | None ↦ λ n. f
      | Some ys ↦ λ n.
          let g = one_grant-some xs ys n in
          granted_upto-none k owner ys (ap (find (owned owner)) g.after ∙ with-none owner g.head.owner (Granted (wanted g.head.standing)) xs f)
    ]) refl

standing-none : (o : Option Asker) → option_map (λ (a : Asker). a.standing) o ≡ None → o ≡ None
standing-none None e = refl
standing-none (Some a) e = cc

-- a settle serves those who wait
pub settled-serves : (owner : Owner) (xs : List Asker) → all_together xs ≡ true → Served (standing_of owner xs) (standing_of owner (settled xs))
settled-serves owner xs t =
    (elim (standing_of owner xs) as (λ o. standing_of owner xs ≡ o → Served o (standing_of owner (settled xs))) [
      | None ↦ λ e. inl (ap (option_map (λ (a : Asker). a.standing)) (granted_upto-none (length xs) owner xs (standing-none (find (owned owner) xs) e)))
      | Some s ↦ λ e. (elim (grants-serve xs owner s t e) [ inl r ↦ inl r | inr r ↦ inr (s, refl, r.0, r.1) ])
    ]) refl

pub served-from : (a b c : Option Standing) → b ≡ a → Served b c → Served a c
served-from a b c e s = rw (← e) s

-- what an asker of another owner is behind a change of one owner's place
apart : (owner other : Owner) (a : Asker) → same_owner other owner ≡ false → (not (same_owner a.owner other) || not (owned owner a)) ≡ true
apart owner other a n =
    (elim (same_owner a.owner other) as (λ b. same_owner a.owner other ≡ b → (not b || not (owned owner a)) ≡ true) [
      | true ↦ λ e. let is : a.owner ≡ other = same_owner-same a.owner other e in rw is (rw n refl)
      | false ↦ λ e. refl
    ]) refl

find-without : (owner other : Owner) (xs : List Asker) → same_owner other owner ≡ false → find (owned owner) (without other xs) ≡ find (owned owner) xs
find-without owner other xs n = find-filter (owned owner) (λ (a : Asker). not (same_owner a.owner other)) xs (list_all-every (λ (a : Asker). not (same_owner a.owner other) || not (owned owner a)) xs (λ a. apart owner other a n))

standing-without : (owner other : Owner) (xs : List Asker) → same_owner other owner ≡ false → standing_of owner (without other xs) ≡ standing_of owner xs
standing-without owner other xs n = ap (option_map (λ (a : Asker). a.standing)) (find-without owner other xs n)

-- others at a request
pub asked-other : (x : LockName) (p o : Owner) (mode : Mode) (t : List Resource) → same_owner o p ≡ false → standing_of p (resource_at x (asked x o mode t)).askers ≡ standing_of p (resource_at x t).askers
asked-other x p o mode t n =
    let xs : List Asker = (resource_at x t).askers in
    ap (λ (r : Resource). standing_of p r.askers) (asked-at x o mode t)
    ∙ ap (option_map (λ (a : Asker). a.standing)) (find-push_no (owned p) xs (record { owner = o; standing = first_standing (goes_at_once o mode xs) mode }) n)

pub asked-serves : (x : LockName) (p o : Owner) (mode : Mode) (t : List Resource) → same_owner o p ≡ false
    → Served (standing_of p (resource_at x t).askers) (standing_of p (resource_at x (asked x o mode t)).askers)
asked-serves x p o mode t n = inl (asked-other x p o mode t n)

-- others at a conversion
pub converted-serves : (x : LockName) (p o : Owner) (old mode : Mode) (value : List ℕ) (t : List Resource) → IsTable t → same_owner o p ≡ false
    → lock_of o (resource_at x t).askers ≡ Some old → is_across old mode ≡ false
    → Served (standing_of p (resource_at x t).askers) (standing_of p (resource_at x (converted x o mode value t)).askers)
converted-serves x p o old mode value t tab n l c =
    let r : Resource = resource_at x t in
    let xs : List Asker = r.askers in
    let some : IsSome (lock_of o xs) = rw l refl in
    let together = (IsSettled-at x t tab).together in
    let h = HasLock-lock_of o old xs l in
    let at : standing_of p (resource_at x (converted x o mode value t)).askers ≡ standing_of p (converted_of o mode value r).askers = ap (λ (q : Resource). standing_of p q.askers) (converted-at x o mode value t some) in
    rw (at, lock-is o r old l) (
    (elim (converts_at_once o old mode xs) as (λ b. converts_at_once o old mode xs ≡ b → Served (standing_of p xs) (standing_of p (if b then written (conversion_writes old mode) value (regranted o mode r) else queued_up o old mode r).askers)) [
      | true ↦ λ e.
          let goes = converts-goes o old mode xs together h (across-not old mode c) e in
          let ys : List Asker = with_standing o (Granted mode) xs in
          let k = settled-serves p ys (all_together-granted o mode xs together goes) in
          rw (written-askers (conversion_writes old mode) value (regranted o mode r)) (
          served-from (standing_of p xs) (standing_of p ys) (standing_of p (settled ys)) (ap (option_map (λ (a : Asker). a.standing)) (find-with p o (Granted mode) xs n)) k)
      | false ↦ λ e.
          inl (ap (option_map (λ (a : Asker). a.standing)) (find-push_no (owned p) (without o xs) (record { owner = o; standing = Converting old mode }) n ∙ find-without p o xs n))
    ]) refl)

suc-not : (n : ℕ) → (suc n == 0) ≡ false
suc-not n = grind arith

pub vacated-askers : (p : Owner) (r : Resource) → standing_of p (vacated r).askers ≡ standing_of p r.askers
vacated-askers p r =
    (elim r.askers as (λ xs. standing_of p (vacated (record r { askers = xs })).askers ≡ standing_of p xs) [ [] ↦ refl | a ∷ xs ↦ rw (suc-not (length xs)) refl ])

-- others at a release
pub released-serves : (x : LockName) (p o : Owner) (value : List ℕ) (t : List Resource) → IsTable t → same_owner o p ≡ false
    → Served (standing_of p (resource_at x t).askers) (standing_of p (resource_at x (released x o value t)).askers)
released-serves x p o value t tab n =
    let r : Resource = resource_at x t in
    let xs : List Asker = r.askers in
    let ys : List Asker = without o xs in
    let together = (IsSettled-at x t tab).together in
    let at : standing_of p (resource_at x (released x o value t)).askers ≡ standing_of p (settled ys) =
    ap (λ (q : Resource). standing_of p q.askers) (released-at x o value t) ∙ vacated-askers p (released_of o value r)
    ∙ ap (standing_of p) (written-askers (is_writing (mode_held o r)) value (record r { askers = settled ys })) in
    rw at (served-from (standing_of p xs) (standing_of p ys) (standing_of p (settled ys)) (standing-without p o xs n)
    (settled-serves p ys (all_together-filter (λ (a : Asker). not (same_owner a.owner o)) xs together)))

-- what an owner that can be served has
pub can-mode : (lock : Option Mode) (s : Option Standing) → s ≡ stands_as lock → option_and_then held s ≡ lock
can-mode None s e = rw e refl
can-mode (Some m) s e = rw e refl

pub can-lock : (lock : Option Mode) (s : Option Standing) → s ≡ stands_as lock → option_and_then settled_mode s ≡ lock
can-lock None s e = rw e refl
can-lock (Some m) s e = rw e refl

-- the table after an ask
pub record Made (m : Message) (mode : Mode) (lock : Option Mode) (t t2 : List Resource) : Type 0 where
  pub table : IsTable t2
  pub others : LeavesOthers m.name t t2
  pub here : (p : Owner) → same_owner m.owner p ≡ false → Served (standing_of p (resource_at m.name t).askers) (standing_of p (resource_at m.name t2).askers)
  pub own : (standing_of m.owner (resource_at m.name t2).askers ≡ Some (Granted mode)) ⊎ ((lowers lock mode ≡ false) × (standing_of m.owner (resource_at m.name t2).askers ≡ Some (queued_as lock mode)))

first-own : (b : Bool) (mode : Mode) (s : Option Standing) → s ≡ Some (first_standing b mode) → (s ≡ Some (Granted mode)) ⊎ ((false ≡ false) × (s ≡ Some (Waiting mode)))
first-own true mode s e = inl e
first-own false mode s e = inr (refl, e)

request-made : (m : Message) (mode : Mode) (t : List Resource) → IsTable t → standing_of m.owner (resource_at m.name t).askers ≡ None → Made m mode None t (asked m.name m.owner mode t)
request-made m mode t tab e = record {
  table = IsTable-asked m.name m.owner mode t tab e;
  others = asked-leaves m.name m.owner mode t;
  here = λ p n. asked-serves m.name p m.owner mode t n;
  own = first-own (goes_at_once m.owner mode (resource_at m.name t).askers) mode (standing_of m.owner (resource_at m.name (asked m.name m.owner mode t)).askers) (requests-stand m.name m.owner mode t e);
}

converts-lower : (o : Owner) (old mode : Mode) (xs : List Asker) → is_lowering old mode ≡ true → converts_at_once o old mode xs ≡ true
converts-lower o old mode xs e = rw (lowering-not_up old mode e) refl

own-converted : (b c : Bool) (old mode : Mode) (s : Option Standing) → s ≡ Some (if b then Granted mode else Converting old mode) → (c ≡ true → b ≡ true)
    → (s ≡ Some (Granted mode)) ⊎ ((c ≡ false) × (s ≡ Some (Converting old mode)))
own-converted true c old mode s e f = inl e
own-converted false true old mode s e f = let k : false ≡ true = f refl in cc
own-converted false false old mode s e f = inr (refl, e)

pub some-mode : (a b : Mode) → Some a ≡ Some b → a ≡ b
some-mode a b e = cc

conversion-made : (m : Message) (old mode : Mode) (t : List Resource) → IsTable t → lock_of m.owner (resource_at m.name t).askers ≡ Some old → is_across old mode ≡ false
    → Made m mode (Some old) t (converted m.name m.owner mode m.value t)
conversion-made m old mode t tab l c =
    let r : Resource = resource_at m.name t in
    let some : IsSome (lock_of m.owner r.askers) = rw l refl in
    let n = across-not old mode c in
    record {
      table = IsTable-converted m.name m.owner mode m.value t tab some (λ p q. n (some-mode old PR (sym l ∙ p)) q);
      others = converted-leaves m.name m.owner mode m.value t;
      here = λ p d. converted-serves m.name p m.owner old mode m.value t tab d l c;
      own = own-converted (converts_now m.name m.owner mode t) (is_lowering old mode) old mode (standing_of m.owner (resource_at m.name (converted m.name m.owner mode m.value t)).askers)
          (conversions-stand m.name m.owner old mode m.value t tab l n) (λ e. rw (lock-is m.owner r old l) (converts-lower m.owner old mode r.askers e));
    }

-- who has a lock of which no conversion is queued, or none, does not wait
pub idle-queues : (o : Owner) (xs : List Asker) (lock : Option Mode) → standing_of o xs ≡ stands_as lock → queues o xs ≡ false
idle-queues o xs None e = rw e refl
idle-queues o xs (Some m) e = rw e refl

pub fits-so : (m : Message) (mode : Mode) (lock : Option Mode) (t : List Resource) → standing_of m.owner (resource_at m.name t).askers ≡ stands_as lock → crosses lock mode ≡ false → ask_fits m.owner m.name lock mode t ≡ true
fits-so m mode lock t e c = rw (idle-queues m.owner (resource_at m.name t).askers lock e, c) refl

pub ask-made : (m : Message) (mode : Mode) (lock : Option Mode) (t : List Resource) → IsTable t → standing_of m.owner (resource_at m.name t).askers ≡ stands_as lock → crosses lock mode ≡ false
    → Made m mode lock t (ask_made m lock mode t)
ask-made m mode None t tab e c = rw (fits-so m mode None t e c) (request-made m mode t tab e)
ask-made m mode (Some old) t tab e c = rw (fits-so m mode (Some old) t e c) (conversion-made m old mode t tab (can-lock (Some old) (standing_of m.owner (resource_at m.name t).askers) e) c)

pub drop-is : (m : Message) (k : Mode) (t : List Resource) → standing_of m.owner (resource_at m.name t).askers ≡ stands_as (Some k) → drop_made m (Some k) t ≡ released m.name m.owner m.value t
drop-is m k t e = rw (idle-queues m.owner (resource_at m.name t).askers (Some k) e) refl

-- who asks stands there then
queues-some : (o : Owner) (xs : List Asker) → queues o xs ≡ true → not (length xs == 0) ≡ true
queues-some o [] e = cc
queues-some o (a ∷ rest) e = ap not (suc-not (length rest))

mode-some : (o : Owner) (xs : List Asker) (k : Mode) → mode_of o xs ≡ Some k → not (length xs == 0) ≡ true
mode-some o [] k e = cc
mode-some o (a ∷ rest) k e = ap not (suc-not (length rest))

idle-lock : (o : Owner) (xs : List Asker) (k : Mode) → queues o xs ≡ false → mode_of o xs ≡ Some k → lock_of o xs ≡ Some k
idle-lock o xs k q e =
    (elim (standing_of o xs) as (λ f. unwrap_or (option_map is_queued f) false ≡ false → option_and_then held f ≡ Some k → option_and_then settled_mode f ≡ Some k) [
      | None ↦ λ a b. cc
      | Some (Granted m) ↦ λ a b. b
      | Some (Converting m n) ↦ λ a b. cc
      | Some (Waiting m) ↦ λ a b. cc
    ]) q e

used-made : (m : Message) (old : Option Mode) (mode : Mode) (t : List Resource) (q c : Bool) → queues m.owner (resource_at m.name t).askers ≡ q → crosses old mode ≡ c → mode_of m.owner (resource_at m.name t).askers ≡ old
    → is_used (resource_at m.name (ask_made m old mode t)) ≡ true
used-made m old mode t true c qe ce o = rw qe (queues-some m.owner (resource_at m.name t).askers qe)
used-made m None mode t false true qe ce o = cc
used-made m (Some k) mode t false true qe ce o = rw (qe, ce) (mode-some m.owner (resource_at m.name t).askers k o)
used-made m None mode t false false qe ce o =
    let is : ask_made m None mode t ≡ asked m.name m.owner mode t = rw qe refl in
    ap is_used (ap (resource_at m.name) is ∙ asked-at m.name m.owner mode t) ∙ used-asked m.owner mode (resource_at m.name t)
used-made m (Some k) mode t false false qe ce o =
    let l : lock_of m.owner (resource_at m.name t).askers ≡ Some k = idle-lock m.owner (resource_at m.name t).askers k qe o in
    let some : IsSome (lock_of m.owner (resource_at m.name t).askers) = rw l refl in
    let is : ask_made m (Some k) mode t ≡ converted m.name m.owner mode m.value t = rw (qe, ce) refl in
    ap is_used (ap (resource_at m.name) is ∙ converted-at m.name m.owner mode m.value t some) ∙ used-converted m.owner mode m.value (resource_at m.name t) some

pub used_made : (m : Message) (old : Option Mode) (mode : Mode) (t : List Resource) → old ≡ mode_of m.owner (resource_at m.name t).askers → is_used (resource_at m.name (ask_made m old mode t)) ≡ true
used_made m old mode t e = used-made m old mode t (queues m.owner (resource_at m.name t).askers) (crosses old mode) refl refl (sym e)
