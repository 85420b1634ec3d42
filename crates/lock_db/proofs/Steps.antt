-- What holds of the table goes on to hold after each call.
use Rattle.std.proofs.Common.{◌≡◌, ◌==◌, ◌&&◌, ◌||◌, ◌++◌, ℕ, Bool, true, false, not, List, [], ◌∷◌, Some, None, map, filter, find, if◌then◌else◌, refl, arith, cond, ap, ◌∙◌, length, unwrap_or, option_map, option_and_then, IsSome, IfSome, Result, Ok, Err, OnOk, OnErr, take, drop}
use Rattle.std.proofs.Math.Seq.{take-append_seam}
use Rattle.std.specs.List.{list_all, list_any, AllByRecursion}
use Rattle.std.proofs.lemmas.List.Folds.{list_all-map}
use Rattle.plain_cat.specs.declared.mode.Mode.{Mode}
use Rattle.plain_cat.specs.declared.mode.Mode.TheVariants.{CW, PR}
use Rattle.lock_db.specs.declared.name.LockName.{LockName}
use Rattle.lock_db.specs.declared.name.Owner.{Owner}
use Rattle.lock_db.specs.declared.askers.Standing.{Standing}
use Rattle.lock_db.specs.declared.askers.Standing.TheVariants.{Granted, Waiting}
use Rattle.lock_db.specs.declared.askers.Asker.{Asker}
use Rattle.lock_db.specs.declared.resource.Resource.{Resource}
use Rattle.lock_db.specs.Names.{is_before, same_owner}
use Rattle.lock_db.specs.Queues.{held, goes, is_upward, is_converting, is_waiting, with_standing, without, without_node, settled, standing_of, settled_mode, lock_of}
use Rattle.lock_db.specs.Resources.{fresh, is_used, goes_at_once, first_standing, asked_of, converts_at_once, written, conversion_writes, regranted, queued_up, converted_from, mode_held, converted_of, released_of, dropped_of, recovered_of}
use Rattle.lock_db.specs.Tables.{resource_at, kept, placed, asked, tried, converted, converts_now, try_converted, released, dropped, recovered, all_together, is_ordered, IsSettled, IsTable}
use Rattle.lock_db.proofs.Lists.{and-left, and-right, and-both, list_all-head, list_all-tail, list_all-filter, list_all-weaker, list_all-passing, list_all-joined}
use Rattle.lock_db.proofs.Names.{is_before-trans}
use Rattle.lock_db.proofs.Together.{all_together-filter, all_together-granted, all_together-queued, all_together-asked, goes-held, goes-lower}
use Rattle.lock_db.proofs.Heads.{one_grant-asked, one_grant-at_once, one_grant-queued, settled-idle, settled-together}
use Rattle.lock_db.proofs.Order.{before, after, same}
use Rattle.lock_db.proofs.Places.{written-askers}

IsSettled-settled : (xs : List Asker) → all_together xs ≡ true → IsSettled (settled xs)
IsSettled-settled xs e = record { together = settled-together xs e; idle = settled-idle xs }

pub standing_of-none : (owner : Owner) (xs : List Asker) → standing_of owner xs ≡ None → find (λ (a : Asker). same_owner a.owner owner) xs ≡ None
standing_of-none owner xs e =
    (elim (find (λ (a : Asker). same_owner a.owner owner) xs) as (λ o. option_map (λ (a : Asker). a.standing) o ≡ None → o ≡ None) [ None ↦ λ g. refl | Some a ↦ λ g. cc ]) e

-- the asker that has a lock of which no conversion is queued
pub record HasLock (owner : Owner) (old : Mode) (xs : List Asker) : Type 0 where
  pub asker : Asker
  pub found : find (λ (a : Asker). same_owner a.owner owner) xs ≡ Some asker
  pub stands : asker.standing ≡ Granted old

settled_mode-some : (s : Standing) (m : Mode) → settled_mode s ≡ Some m → s ≡ Granted m
settled_mode-some s m e = grind arith

pub HasLock-lock_of : (owner : Owner) (old : Mode) (xs : List Asker) → lock_of owner xs ≡ Some old → HasLock owner old xs
HasLock-lock_of owner old xs e =
    (elim (find (λ (a : Asker). same_owner a.owner owner) xs) as (λ o. find (λ (a : Asker). same_owner a.owner owner) xs ≡ o → option_and_then settled_mode (option_map (λ (a : Asker). a.standing) o) ≡ Some old → HasLock owner old xs)
    [ None ↦ λ f g. cc | Some a ↦ λ f g. record { asker = a; found = f; stands = settled_mode-some a.standing old g } ]) refl e

pub IsSettled-asked : (owner : Owner) (mode : Mode) (r : Resource) → IsSettled r.askers → standing_of owner r.askers ≡ None → IsSettled (asked_of owner mode r).askers
IsSettled-asked owner mode r s n =
    let xs : List Asker = r.askers in
    let absent = standing_of-none owner xs n in
    (elim (goes_at_once owner mode xs) as (λ b. goes_at_once owner mode xs ≡ b → IsSettled (xs ++ (record { owner = owner; standing = first_standing b mode } ∷ []))) [
      | true ↦ λ e.
          let fits : goes owner mode xs ≡ true = and-right (not (list_any is_waiting xs)) (goes owner mode xs) (and-right (not (list_any is_converting xs)) _ e) in
          record { together = all_together-asked owner (Granted mode) xs s.together absent (λ m g. let k : mode ≡ m = cc in rw (← k) fits); idle = one_grant-at_once owner mode xs e }
      | false ↦ λ e. record { together = all_together-asked owner (Waiting mode) xs s.together absent (λ m g. cc); idle = one_grant-asked owner mode xs s.idle e }
    ]) refl

-- a conversion that is granted at once goes with the granted locks of the others
pub converts-goes : (owner : Owner) (old new : Mode) (xs : List Asker) → all_together xs ≡ true → HasLock owner old xs → (old ≡ PR → new ≡ CW → ⊥) → converts_at_once owner old new xs ≡ true → goes owner new xs ≡ true
converts-goes owner old new xs e h n c =
    (elim (is_upward old new) as (λ b. is_upward old new ≡ b → (not b || (not (list_any is_converting xs) && goes owner new xs)) ≡ true → goes owner new xs ≡ true) [
      | true ↦ λ u k. and-right (not (list_any is_converting xs)) (goes owner new xs) k
      | false ↦ λ u k. goes-lower owner old new xs u n (goes-held owner old xs h.asker e h.found (ap held h.stands))
    ]) refl c

pub IsSettled-regranted : (owner : Owner) (new : Mode) (r : Resource) → all_together r.askers ≡ true → goes owner new r.askers ≡ true → IsSettled (regranted owner new r).askers
IsSettled-regranted owner new r e g = IsSettled-settled (with_standing owner (Granted new) r.askers) (all_together-granted owner new r.askers e g)

pub IsSettled-converted : (owner : Owner) (old new : Mode) (value : List ℕ) (r : Resource) → IsSettled r.askers → lock_of owner r.askers ≡ Some old → (old ≡ PR → new ≡ CW → ⊥) → IsSettled (converted_from old owner new value r).askers
IsSettled-converted owner old new value r s l n =
    let h = HasLock-lock_of owner old r.askers l in
    (elim (converts_at_once owner old new r.askers) as (λ b. converts_at_once owner old new r.askers ≡ b → IsSettled (if b then written (conversion_writes old new) value (regranted owner new r) else queued_up owner old new r).askers) [
      | true ↦ λ e. rw (written-askers (conversion_writes old new) value (regranted owner new r)) (IsSettled-regranted owner new r s.together (converts-goes owner old new r.askers s.together h n e))
      | false ↦ λ e. record { together = all_together-queued owner old new r.askers s.together (goes-held owner old r.askers h.asker s.together h.found (ap held h.stands)); idle = one_grant-queued owner old new r.askers h.asker s.together h.found h.stands s.idle e }
    ]) refl

pub IsSettled-released : (owner : Owner) (value : List ℕ) (r : Resource) → IsSettled r.askers → IsSettled (released_of owner value r).askers
IsSettled-released owner value r s =
    rw (written-askers _ value (record r { askers = settled (without owner r.askers) }))
    (IsSettled-settled (without owner r.askers) (all_together-filter (λ (a : Asker). not (same_owner a.owner owner)) r.askers s.together))

pub IsSettled-dropped : (node : ℕ) (r : Resource) → IsSettled r.askers → IsSettled (dropped_of node r).askers
IsSettled-dropped node r s = IsSettled-settled (without_node node r.askers) (all_together-filter (λ (a : Asker). not (a.owner.node == node)) r.askers s.together)

-- the same of each resource of a list
abbrev EachSettled : List Resource → Type 0
EachSettled t = AllByRecursion (λ (r : Resource). IsSettled r.askers) t

EachSettled-filter : (p : Resource → Bool) (t : List Resource) → EachSettled t → EachSettled (filter p t)
EachSettled-filter p [] s = s
EachSettled-filter p (r ∷ t) s =
    let rest = EachSettled-filter p t s.1 in
    (elim (p r) as (λ b. EachSettled (cond b (r ∷ filter p t) (filter p t))) [ true ↦ (s.0, rest) | false ↦ rest ])

EachSettled-joined : (t u : List Resource) → EachSettled t → EachSettled u → EachSettled (t ++ u)
EachSettled-joined [] u s v = v
EachSettled-joined (r ∷ t) u s v = (s.0, EachSettled-joined t u s.1 v)

EachSettled-found : (p : Resource → Bool) (t : List Resource) (r : Resource) → EachSettled t → find p t ≡ Some r → IsSettled r.askers
EachSettled-found p [] r s e = cc
EachSettled-found p (x ∷ t) r s e =
    (elim (p x) as (λ b. cond b (Some x) (find p t) ≡ Some r → IsSettled r.askers)
    [ true ↦ λ g. let here : x ≡ r = cc in rw (← here) s.0 | false ↦ λ g. EachSettled-found p t r s.1 g ]) e

pub IsSettled-at : (name : LockName) (t : List Resource) → IsTable t → IsSettled (resource_at name t).askers
IsSettled-at name t s =
    (elim (find (same name) t) as (λ o. find (same name) t ≡ o → IsSettled (unwrap_or o (fresh name)).askers)
    [ None ↦ λ e. record { together = refl; idle = refl } | Some r ↦ λ e. EachSettled-found (same name) t r s.settled_all e ]) refl

ordered-cons : (r : Resource) (t : List Resource) → list_all (after r.name) t ≡ true → is_ordered t ≡ true → is_ordered (r ∷ t) ≡ true
ordered-cons r t e f = and-both (list_all (after r.name) t) (is_ordered t) e f

ordered-filter : (p : Resource → Bool) (t : List Resource) → is_ordered t ≡ true → is_ordered (filter p t) ≡ true
ordered-filter p [] e = refl
ordered-filter p (r ∷ t) e =
    let first = list_all-filter (after r.name) p t (and-left (list_all (after r.name) t) (is_ordered t) e) in
    let rest = ordered-filter p t (and-right (list_all (after r.name) t) (is_ordered t) e) in
    (elim (p r) as (λ b. is_ordered (cond b (r ∷ filter p t) (filter p t)) ≡ true) [ true ↦ ordered-cons r (filter p t) first rest | false ↦ rest ])

ordered-joined : (t u : List Resource) → is_ordered t ≡ true → is_ordered u ≡ true → list_all (λ r. list_all (after r.name) u) t ≡ true → is_ordered (t ++ u) ≡ true
ordered-joined [] u e f g = f
ordered-joined (r ∷ t) u e f g =
    ordered-cons r (t ++ u) (list_all-joined (after r.name) t u (and-left (list_all (after r.name) t) (is_ordered t) e) (list_all-head (λ s. list_all (after s.name) u) r t g))
    (ordered-joined t u (and-right (list_all (after r.name) t) (is_ordered t) e) f (list_all-tail (λ s. list_all (after s.name) u) r t g))

ordered-kept : (r : Resource) (t : List Resource) → list_all (after r.name) t ≡ true → is_ordered t ≡ true → is_ordered (kept r ++ t) ≡ true
ordered-kept r t e f = (elim (is_used r) as (λ b. is_ordered ((if b then r ∷ [] else []) ++ t) ≡ true) [ true ↦ ordered-cons r t e f | false ↦ f ])

after-kept : (name : LockName) (r : Resource) (t : List Resource) → is_before name r.name ≡ true → list_all (after r.name) t ≡ true → list_all (after name) (kept r ++ t) ≡ true
after-kept name r t h e =
    let rest = list_all-weaker (after r.name) (after name) t (λ s k. is_before-trans name r.name s.name h k) e in
    (elim (is_used r) as (λ b. list_all (after name) ((if b then r ∷ [] else []) ++ t) ≡ true) [ true ↦ and-both (after name r) (list_all (after name) t) h rest | false ↦ rest ])

used-kept : (r : Resource) → list_all is_used (kept r) ≡ true
used-kept r = (elim (is_used r) as (λ b. is_used r ≡ b → list_all is_used (if b then r ∷ [] else []) ≡ true) [ true ↦ λ e. and-both (is_used r) true e refl | false ↦ λ e. refl ]) refl

EachSettled-kept : (r : Resource) → IsSettled r.askers → EachSettled (kept r)
EachSettled-kept r s = (elim (is_used r) as (λ b. EachSettled (if b then r ∷ [] else [])) [ true ↦ (s, tt) | false ↦ tt ])

pub IsTable-placed : (r : Resource) (t : List Resource) → IsTable t → IsSettled r.askers → IsTable (placed r t)
IsTable-placed r t s k =
    let xs : List Resource = filter (before r.name) t in
    let ys : List Resource = filter (after r.name) t in
    let behind = list_all-passing (after r.name) t in
    record {
      ordered = ordered-joined xs (kept r ++ ys) (ordered-filter (before r.name) t s.ordered) (ordered-kept r ys behind (ordered-filter (after r.name) t s.ordered))
          (list_all-weaker (before r.name) (λ x. list_all (after x.name) (kept r ++ ys)) xs (λ x h. after-kept x.name r ys h behind) (list_all-passing (before r.name) t));
      used = list_all-joined is_used xs (kept r ++ ys) (list_all-filter is_used (before r.name) t s.used) (list_all-joined is_used (kept r) ys (used-kept r) (list_all-filter is_used (after r.name) t s.used));
      settled_all = EachSettled-joined xs (kept r ++ ys) (EachSettled-filter (before r.name) t s.settled_all) (EachSettled-joined (kept r) ys (EachSettled-kept r k) (EachSettled-filter (after r.name) t s.settled_all));
    }

ordered-names : (node : ℕ) (name : LockName) (t : List Resource) → list_all (after name) t ≡ true → list_all (after name) (map (dropped_of node) t) ≡ true
ordered-names node name t e = list_all-map (after name) (dropped_of node) t ∙ e

ordered-dropped : (node : ℕ) (t : List Resource) → is_ordered t ≡ true → is_ordered (map (dropped_of node) t) ≡ true
ordered-dropped node [] e = refl
ordered-dropped node (r ∷ t) e =
    ordered-cons (dropped_of node r) (map (dropped_of node) t) (ordered-names node r.name t (and-left (list_all (after r.name) t) (is_ordered t) e)) (ordered-dropped node t (and-right (list_all (after r.name) t) (is_ordered t) e))

EachSettled-dropped : (node : ℕ) (t : List Resource) → EachSettled t → EachSettled (map (dropped_of node) t)
EachSettled-dropped node [] s = s
EachSettled-dropped node (r ∷ t) s = (IsSettled-dropped node r s.0, EachSettled-dropped node t s.1)

pub IsTable-dropped : (node : ℕ) (t : List Resource) → IsTable t → IsTable (dropped node t)
unfolding dropped
IsTable-dropped node t s = record {
  ordered = ordered-filter is_used (map (dropped_of node) t) (ordered-dropped node t s.ordered);
  used = list_all-passing is_used (map (dropped_of node) t);
  settled_all = EachSettled-filter is_used (map (dropped_of node) t) (EachSettled-dropped node t s.settled_all);
}

-- the table after each call
pub IsTable-asked : (name : LockName) (owner : Owner) (mode : Mode) (t : List Resource) → IsTable t → standing_of owner (resource_at name t).askers ≡ None → IsTable (asked name owner mode t)
unfolding asked
IsTable-asked name owner mode t s n = IsTable-placed (asked_of owner mode (resource_at name t)) t s (IsSettled-asked owner mode (resource_at name t) (IsSettled-at name t s) n)

pub IsTable-tried : (name : LockName) (owner : Owner) (mode : Mode) (t : List Resource) → IsTable t → standing_of owner (resource_at name t).askers ≡ None → IsTable (tried name owner mode t)
unfolding tried
IsTable-tried name owner mode t s n =
    (elim (goes_at_once owner mode (resource_at name t).askers) as (λ b. IsTable (if b then asked name owner mode t else t)) [ true ↦ IsTable-asked name owner mode t s n | false ↦ s ])

pub lock-is : (owner : Owner) (r : Resource) (old : Mode) → lock_of owner r.askers ≡ Some old → mode_held owner r ≡ old
lock-is owner r old e = rw e refl

converted-table : (name : LockName) (owner : Owner) (mode : Mode) (value : List ℕ) (t : List Resource) (old : Mode) → IsTable t → lock_of owner (resource_at name t).askers ≡ Some old → (old ≡ PR → mode ≡ CW → ⊥) → IsTable (converted name owner mode value t)
unfolding converted
converted-table name owner mode value t old s l n =
    let r : Resource = resource_at name t in
    IsTable-placed (converted_of owner mode value r) t s (rw (lock-is owner r old l) (IsSettled-converted owner old mode value r (IsSettled-at name t s) l n))

try_converted-table : (name : LockName) (owner : Owner) (mode : Mode) (t : List Resource) (old : Mode) → IsTable t → lock_of owner (resource_at name t).askers ≡ Some old → is_upward old mode ≡ true → IsTable (try_converted name owner mode t)
unfolding try_converted
try_converted-table name owner mode t old s l u =
    let r : Resource = resource_at name t in
    (elim (converts_now name owner mode t) as (λ b. converts_now name owner mode t ≡ b → IsTable (if b then placed (regranted owner mode r) t else t)) [
      | true ↦ λ e.
          let k : converts_at_once owner old mode r.askers ≡ true = rw (lock-is owner r old l) at e in
          let fits : goes owner mode r.askers ≡ true = and-right (not (list_any is_converting r.askers)) (goes owner mode r.askers) (rw u at k) in
          IsTable-placed (regranted owner mode r) t s (IsSettled-regranted owner mode r (IsSettled-at name t s).together fits)
      | false ↦ λ e. s
    ]) refl

pub IsTable-released : (name : LockName) (owner : Owner) (value : List ℕ) (t : List Resource) → IsTable t → IsTable (released name owner value t)
unfolding released
IsTable-released name owner value t s = IsTable-placed (released_of owner value (resource_at name t)) t s (IsSettled-released owner value (resource_at name t) (IsSettled-at name t s))

pub IsTable-recovered : (name : LockName) (value : List ℕ) (valid : Bool) (t : List Resource) → IsTable t → IsTable (recovered name value valid t)
unfolding recovered
IsTable-recovered name value valid t s = IsTable-placed (recovered_of value valid (resource_at name t)) t s (IsSettled-at name t s)

pub IsTable-converted : (name : LockName) (owner : Owner) (mode : Mode) (value : List ℕ) (t : List Resource) → IsTable t → IsSome (lock_of owner (resource_at name t).askers)
    → (lock_of owner (resource_at name t).askers ≡ Some PR → mode ≡ CW → ⊥) → IsTable (converted name owner mode value t)
IsTable-converted name owner mode value t s l n =
    let r : Resource = resource_at name t in
    (elim (lock_of owner r.askers) as (λ o. lock_of owner r.askers ≡ o → IsSome o → IsTable (converted name owner mode value t))
    [ None ↦ λ e k. cc | Some old ↦ λ e k. converted-table name owner mode value t old s e (λ p. n (e ∙ ap Some p)) ]) refl l

pub IsTable-try_converted : (name : LockName) (owner : Owner) (mode : Mode) (t : List Resource) → IsTable t → IsSome (lock_of owner (resource_at name t).askers)
    → IfSome (lock_of owner (resource_at name t).askers) (λ old. is_upward old mode ≡ true) → IsTable (try_converted name owner mode t)
IsTable-try_converted name owner mode t s l u =
    let r : Resource = resource_at name t in
    (elim (lock_of owner r.askers) as (λ o. lock_of owner r.askers ≡ o → IsSome o → IfSome o (λ old. is_upward old mode ≡ true) → IsTable (try_converted name owner mode t))
    [ None ↦ λ e k v. cc | Some old ↦ λ e k v. try_converted-table name owner mode t old s e v ]) refl l u

-- what a call that may want memory leaves
pub IsTable-either : {A E : Type 0} (r : Result A E) (new done old : List Resource) → OnOk r (new ≡ done) → OnErr r (new ≡ old) → IsTable done → IsTable old → IsTable new
IsTable-either (Ok x) new done old e f s k = rw e s
IsTable-either (Err x) new done old e f s k = rw f k

-- what stands in a vector after all of it is written
pub take-written : (xs ys : List Resource) (n : ℕ) → length xs ≡ n → take n (xs ++ drop (length xs) ys) ≡ xs
take-written xs ys n e = rw (← e) (take-append_seam xs (drop (length xs) ys))
