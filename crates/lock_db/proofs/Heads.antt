-- Heads of queues: when nothing that could be granted waits.
use Rattle.std.proofs.Common.{◌≡◌, ◌<◌, ◌≤◌, ◌+◌, ◌&&◌, ◌||◌, ◌++◌, ℕ, zero, suc, Bool, true, false, not, List, [], ◌∷◌, Option, Some, None, find, refl, arith, cond, ◌∙◌, sym, ap, length, option_and_then, option_map, unwrap_or}
use Rattle.std.specs.List.{list_all, list_any}
use Rattle.std.proofs.lemmas.List.Folds.{list_all-append}
use Rattle.plain_cat.specs.declared.mode.Mode.{Mode}
use Rattle.lock_db.specs.declared.name.Owner.{Owner}
use Rattle.lock_db.specs.declared.askers.Standing.TheVariants.{Granted, Converting, Waiting}
use Rattle.lock_db.specs.declared.askers.Asker.{Asker}
use Rattle.lock_db.specs.Names.{same_owner}
use Rattle.lock_db.specs.Queues.{wanted, is_converting, is_waiting, is_queued, goes, or_else, head_of, standing_so, with_standing, without, grant_to, one_grant, granted_upto, settled, is_upward}
use Rattle.lock_db.specs.Resources.{goes_at_once, converts_at_once}
use Rattle.lock_db.specs.Tables.{all_together, stand_together}
use Rattle.lock_db.proofs.Lists.{true-and_not, and-left, and-right, and-both, and-false, or-if_right, or-false_right, not-true, contrapositive, list_all-weaker, list_all-both, list_all-unfilter, list_any-none, find-none, find-passes, find-push_yes, find-push_no, find-push_found, find-filter}
use Rattle.lock_db.proofs.Owners.{same_owner-same, same_owner-refl}
use Rattle.lock_db.proofs.Settling.{granted_upto_stop}
use Rattle.lock_db.proofs.Together.{lets, all_together-head, all_together-tail, same_owner-between, all_together-granted}

-- a grant: whose it is, and what the list is after it
pub record IsGrant (xs ys : List Asker) : Type 0 where
  pub head : Asker
  pub first : head_of xs ≡ Some head
  pub fits : goes head.owner (wanted head.standing) xs ≡ true
  pub after : ys ≡ with_standing head.owner (Granted (wanted head.standing)) xs

pub one_grant-some : (xs ys : List Asker) → one_grant xs ≡ Some ys → IsGrant xs ys
one_grant-some xs ys e =
    (elim (head_of xs) as (λ o. head_of xs ≡ o → option_and_then (grant_to xs) o ≡ Some ys → IsGrant xs ys) [
      | None ↦ λ h g. cc
      | Some a ↦ λ h g.
          (elim (goes a.owner (wanted a.standing) xs) as (λ b. goes a.owner (wanted a.standing) xs ≡ b → cond b (Some (with_standing a.owner (Granted (wanted a.standing)) xs)) None ≡ Some ys → IsGrant xs ys)
          [ true ↦ λ f k. record { head = a; first = h; fits = f; after = cc } | false ↦ λ f k. cc ]) refl g
    ]) refl e

-- no head goes with the granted locks
pub one_grant-none : (xs : List Asker) → ((a : Asker) → head_of xs ≡ Some a → goes a.owner (wanted a.standing) xs ≡ false) → one_grant xs ≡ None
one_grant-none xs h =
    (elim (head_of xs) as (λ o. ((a : Asker) → o ≡ Some a → goes a.owner (wanted a.standing) xs ≡ false) → option_and_then (grant_to xs) o ≡ None)
    [ None ↦ λ g. refl | Some a ↦ λ g. let n = g a refl in rw n refl ]) h

pub one_grant-head : (xs : List Asker) (a : Asker) → one_grant xs ≡ None → head_of xs ≡ Some a → goes a.owner (wanted a.standing) xs ≡ false
one_grant-head xs a e h =
    let k : option_and_then (grant_to xs) (Some a) ≡ None = ap (option_and_then (grant_to xs)) (sym h) ∙ e in
    (elim (goes a.owner (wanted a.standing) xs) as (λ b. cond b (Some (with_standing a.owner (Granted (wanted a.standing)) xs)) None ≡ None → b ≡ false)
    [ true ↦ λ g. cc | false ↦ λ g. refl ]) k

-- a head is the first conversion, or the first waiting request where there is no conversion
pub head_of-some : (xs : List Asker) (a : Asker) → head_of xs ≡ Some a → is_queued a.standing ≡ true
head_of-some xs a e =
    (elim (find is_converting xs) as (λ o. find is_converting xs ≡ o → or_else o (find is_waiting xs) ≡ Some a → is_queued a.standing ≡ true) [
      | None ↦ λ h g. or-if_right (is_converting a) (is_waiting a) (find-passes is_waiting xs a g)
      | Some b ↦ λ h g. let k = find-passes is_converting xs a (h ∙ g) in grind arith
    ]) refl e

-- how many stand in a queue
abbrev pub one_if : Bool → ℕ
one_if true = 1
one_if false = 0

abbrev pub queue_length : List Asker → ℕ
queue_length [] = 0
queue_length (a ∷ xs) = one_if (is_queued a.standing) + queue_length xs

queue_length-le : (xs : List Asker) → queue_length xs ≤ length xs
queue_length-le [] = omega arith
queue_length-le (a ∷ xs) =
    let t = queue_length-le xs in
    (elim (is_queued a.standing) as (λ b. one_if b + queue_length xs ≤ suc (length xs)) [ true ↦ omega arith | false ↦ omega arith ])

one_if-granted : (owner : Owner) (m : Mode) (a : Asker) → one_if (is_queued (standing_so owner (Granted m) a).standing) ≤ one_if (is_queued a.standing)
one_if-granted owner m a =
    (elim (same_owner a.owner owner) as (λ b. one_if (is_queued (cond b (record a { standing = Granted m }) a).standing) ≤ one_if (is_queued a.standing)) [ true ↦ omega arith | false ↦ omega arith ])

queue_length-granted_le : (owner : Owner) (m : Mode) (xs : List Asker) → queue_length (with_standing owner (Granted m) xs) ≤ queue_length xs
queue_length-granted_le owner m [] = omega arith
queue_length-granted_le owner m (a ∷ xs) =
    let t = queue_length-granted_le owner m xs in
    let h = one_if-granted owner m a in
    omega arith

queue_length-granted : (m : Mode) (xs : List Asker) (p : Asker → Bool) (a : Asker) → find p xs ≡ Some a → is_queued a.standing ≡ true → queue_length (with_standing a.owner (Granted m) xs) < queue_length xs
queue_length-granted m [] p a e q = cc
queue_length-granted m (x ∷ xs) p a e q =
    let t : find p xs ≡ Some a → queue_length (with_standing a.owner (Granted m) xs) < queue_length xs = λ f. queue_length-granted m xs p a f q in
    let le = queue_length-granted_le a.owner m xs in
    let h = one_if-granted a.owner m x in
    (elim (p x) as (λ b. cond b (Some x) (find p xs) ≡ Some a → queue_length (with_standing a.owner (Granted m) (x ∷ xs)) < queue_length (x ∷ xs)) [
      | true ↦ λ g.
          let here : x ≡ a = cc in
          let now : is_queued (standing_so a.owner (Granted m) x).standing ≡ false = rw (here, same_owner-refl a.owner) refl in
          let before : is_queued x.standing ≡ true = rw here q in
          rw (now, before) (omega arith)
      | false ↦ λ g. let l = t g in omega arith
    ]) e

grant-shorter : (xs ys : List Asker) → one_grant xs ≡ Some ys → queue_length ys < queue_length xs
grant-shorter xs ys e =
    let g = one_grant-some xs ys e in
    let q = head_of-some xs g.head g.first in
    let m = wanted g.head.standing in
    (elim (find is_converting xs) as (λ o. find is_converting xs ≡ o → or_else o (find is_waiting xs) ≡ Some g.head → queue_length ys < queue_length xs) [
      | None ↦ λ h f. rw g.after (queue_length-granted m xs is_waiting g.head f q)
      | Some b ↦ λ h f. rw g.after (queue_length-granted m xs is_converting g.head (h ∙ f) q)
    ]) refl g.first

no_queue : (xs : List Asker) → queue_length xs ≡ 0 → one_grant xs ≡ None
no_queue xs e =
    (elim (one_grant xs) as (λ o. one_grant xs ≡ o → o ≡ None) [ None ↦ λ h. refl | Some ys ↦ λ h. absurd (omega (arith, grant-shorter xs ys h)) ]) refl

granted_upto-idle : (k : ℕ) (xs : List Asker) → queue_length xs ≤ k → one_grant (granted_upto k xs) ≡ None
unfolding granted_upto
granted_upto-idle zero xs l = no_queue xs (omega arith)
granted_upto-idle (suc k) xs l =
    (elim (one_grant xs) as (λ o. one_grant xs ≡ o → one_grant (unwrap_or (option_map (granted_upto k) o) xs) ≡ None) [
      | None ↦ λ h. h
      | Some ys ↦ λ h. granted_upto-idle k ys (omega (arith, grant-shorter xs ys h))
    ]) refl

-- after a settle nothing that could be granted waits
pub settled-idle : (xs : List Asker) → one_grant (settled xs) ≡ None
settled-idle xs = granted_upto-idle (length xs) xs (queue_length-le xs)

granted_upto-together : (k : ℕ) (xs : List Asker) → all_together xs ≡ true → all_together (granted_upto k xs) ≡ true
unfolding granted_upto
granted_upto-together zero xs e = e
granted_upto-together (suc k) xs e =
    (elim (one_grant xs) as (λ o. one_grant xs ≡ o → all_together (unwrap_or (option_map (granted_upto k) o) xs) ≡ true) [
      | None ↦ λ h. e
      | Some ys ↦ λ h.
          let g = one_grant-some xs ys h in
          granted_upto-together k ys (rw g.after (all_together-granted g.head.owner (wanted g.head.standing) xs e g.fits))
    ]) refl

-- after a settle all stand together as before
pub settled-together : (xs : List Asker) → all_together xs ≡ true → all_together (settled xs) ≡ true
settled-together xs e = granted_upto-together (length xs) xs e

-- where nothing could be granted, a settle changes nothing
pub settled-same : (xs : List Asker) → one_grant xs ≡ None → settled xs ≡ xs
settled-same xs e = granted_upto_stop (length xs) xs e

or_else-none : {A : Type 0} (o b : Option A) → or_else o b ≡ None → (o ≡ None) × (b ≡ None)
or_else-none None b e = (refl, e)
or_else-none (Some a) b e = cc

goes-push : (owner : Owner) (m : Mode) (xs : List Asker) (b : Asker) → goes owner m xs ≡ false → goes owner m (xs ++ b ∷ []) ≡ false
goes-push owner m xs b e = rw (list_all-append (lets owner m) xs (b ∷ [])) (rw e refl)

one_grant-at : (xs : List Asker) (a : Asker) → head_of xs ≡ Some a → goes a.owner (wanted a.standing) xs ≡ false → one_grant xs ≡ None
one_grant-at xs a h g = ap (option_and_then (grant_to xs)) h ∙ rw g refl

-- the head stays the head behind which one more is queued
one_grant-behind : (xs : List Asker) (a b : Asker) → one_grant xs ≡ None → head_of xs ≡ Some a → head_of (xs ++ b ∷ []) ≡ Some a → one_grant (xs ++ b ∷ []) ≡ None
one_grant-behind xs a b e h k = one_grant-at (xs ++ b ∷ []) a k (goes-push a.owner (wanted a.standing) xs b (one_grant-head xs a e h))

-- a new request leaves no head that could be granted
pub one_grant-asked : (owner : Owner) (m : Mode) (xs : List Asker) → one_grant xs ≡ None → goes_at_once owner m xs ≡ false → one_grant (xs ++ (record { owner = owner; standing = Waiting m } ∷ [])) ≡ None
one_grant-asked owner m xs e n =
    let b : Asker = record { owner = owner; standing = Waiting m } in
    let zs : List Asker = xs ++ b ∷ [] in
    let still : find is_converting zs ≡ find is_converting xs = find-push_no is_converting xs b refl in
    (elim (find is_converting xs) as (λ o. find is_converting xs ≡ o → one_grant zs ≡ None) [
      | Some h ↦ λ c. one_grant-behind xs h b e (ap (λ o. or_else o (find is_waiting xs)) c) (ap (λ o. or_else o (find is_waiting zs)) (still ∙ c))
      | None ↦ λ c.
          (elim (find is_waiting xs) as (λ o. find is_waiting xs ≡ o → one_grant zs ≡ None) [
            | Some h ↦ λ w.
                one_grant-behind xs h b e (ap (λ o. or_else o (find is_waiting xs)) c ∙ w)
                (ap (λ o. or_else o (find is_waiting zs)) (still ∙ c) ∙ find-push_found is_waiting xs b h w)
            | None ↦ λ w.
                let first : head_of zs ≡ Some b = ap (λ o. or_else o (find is_waiting zs)) (still ∙ c) ∙ find-push_yes is_waiting xs b refl w in
                let fails : goes owner m xs ≡ false =
                and-false (not (list_any is_waiting xs)) (goes owner m xs) (rw (list_any-none is_waiting xs w) refl)
                (and-false (not (list_any is_converting xs)) _ (rw (list_any-none is_converting xs c) refl) n) in
                one_grant-at zs b first (goes-push owner m xs b fails)
          ]) refl
    ]) refl

other-passes : (p : Asker → Bool) (owner : Owner) (x y : Asker) → same_owner x.owner owner ≡ true → stand_together x y ≡ true → (not (same_owner y.owner owner) || p y) ≡ true
other-passes p owner x y o t =
    (elim (same_owner y.owner owner) as (λ b. same_owner y.owner owner ≡ b → (not b || p y) ≡ true) [
      | true ↦ λ q. let k = same_owner-between owner x.owner y.owner o q in let l = and-left (not (same_owner x.owner y.owner)) _ t in absurd (true-and_not (same_owner x.owner y.owner) k l)
      | false ↦ λ q. refl
    ]) refl

either-passes : (b c : Bool) → (not (not b) || c) ≡ true → (not b || c) ≡ true → c ≡ true
either-passes true c p q = q
either-passes false c p q = p

-- a test that the one asker of this owner passes, all of this owner pass
pub own-passes : (p : Asker → Bool) (owner : Owner) (xs : List Asker) (g : Asker) → all_together xs ≡ true → find (λ (x : Asker). same_owner x.owner owner) xs ≡ Some g → p g ≡ true
    → list_all (λ (x : Asker). not (same_owner x.owner owner) || p x) xs ≡ true
own-passes p owner [] g e f h = refl
own-passes p owner (x ∷ xs) g e f h =
    let P : Bool → Type 0 = λ b. ((not b || p x) && list_all (λ (y : Asker). not (same_owner y.owner owner) || p y) xs) ≡ true in
    (elim (same_owner x.owner owner) as (λ b. same_owner x.owner owner ≡ b → cond b (Some x) (find (λ (y : Asker). same_owner y.owner owner) xs) ≡ Some g → P b) [
      | true ↦ λ o k.
          let here : x ≡ g = cc in
          let first : p x ≡ true = rw here h in
          let rest = list_all-weaker (stand_together x) (λ (y : Asker). not (same_owner y.owner owner) || p y) xs (λ y t. other-passes p owner x y o t) (all_together-head x xs e) in
          and-both (p x) _ first rest
      | false ↦ λ o k. own-passes p owner xs g (all_together-tail x xs e) k h
    ]) refl f

-- what a lock keeps from being granted, it keeps from that while its conversion is queued
goes-queued : (owner : Owner) (old new : Mode) (xs : List Asker) (g : Asker) (o : Owner) (m : Mode) → all_together xs ≡ true → find (λ (x : Asker). same_owner x.owner owner) xs ≡ Some g → g.standing ≡ Granted old
    → goes o m xs ≡ false → goes o m (without owner xs ++ (record { owner = owner; standing = Converting old new } ∷ [])) ≡ false
goes-queued owner old new xs g o m e f s n =
    let b : Asker = record { owner = owner; standing = Converting old new } in
    let ys : List Asker = without owner xs in
    contrapositive (goes o m (ys ++ b ∷ [])) (goes o m xs)
    (λ k.
    let split : (goes o m ys && goes o m (b ∷ [])) ≡ true = sym (list_all-append (lets o m) ys (b ∷ [])) ∙ k in
    let others = list_all-unfilter (λ (x : Asker). not (same_owner x.owner owner)) (lets o m) xs (and-left (goes o m ys) (goes o m (b ∷ [])) split) in
    let mine : lets o m b ≡ true = and-left (lets o m b) true (and-right (goes o m ys) (goes o m (b ∷ [])) split) in
    let same : g.owner ≡ owner = same_owner-same g.owner owner (find-passes (λ (x : Asker). same_owner x.owner owner) xs g f) in
    let own = own-passes (lets o m) owner xs g e f (rw (same, s) mine) in
    list_all-both (λ (x : Asker). not (not (same_owner x.owner owner)) || lets o m x) (λ (x : Asker). not (same_owner x.owner owner) || lets o m x) (lets o m) xs
    (λ x p q. either-passes (same_owner x.owner owner) (lets o m x) p q) others own)
    n

-- a conversion that is queued leaves no head that could be granted
pub one_grant-queued : (owner : Owner) (old new : Mode) (xs : List Asker) (g : Asker) → all_together xs ≡ true → find (λ (x : Asker). same_owner x.owner owner) xs ≡ Some g → g.standing ≡ Granted old
    → one_grant xs ≡ None → converts_at_once owner old new xs ≡ false → one_grant (without owner xs ++ (record { owner = owner; standing = Converting old new } ∷ [])) ≡ None
one_grant-queued owner old new xs g e f s idle n =
    let b : Asker = record { owner = owner; standing = Converting old new } in
    let ys : List Asker = without owner xs in
    let zs : List Asker = ys ++ b ∷ [] in
    let kept : find is_converting ys ≡ find is_converting xs = find-filter is_converting (λ (x : Asker). not (same_owner x.owner owner)) xs (own-passes (λ x. not (is_converting x)) owner xs g e f (rw s refl)) in
    (elim (find is_converting xs) as (λ o. find is_converting xs ≡ o → one_grant zs ≡ None) [
      | Some h ↦ λ c.
          let first : head_of zs ≡ Some h = ap (λ o. or_else o (find is_waiting zs)) (find-push_found is_converting ys b h (kept ∙ c)) in
          let was : head_of xs ≡ Some h = ap (λ o. or_else o (find is_waiting xs)) c in
          one_grant-at zs h first (goes-queued owner old new xs g h.owner (wanted h.standing) e f s (one_grant-head xs h idle was))
      | None ↦ λ c.
          let first : head_of zs ≡ Some b = ap (λ o. or_else o (find is_waiting zs)) (find-push_yes is_converting ys b refl (kept ∙ c)) in
          let fails : goes owner new xs ≡ false =
          and-false (not (list_any is_converting xs)) (goes owner new xs) (rw (list_any-none is_converting xs c) refl)
          (or-false_right (not (is_upward old new)) _ n) in
          one_grant-at zs b first (goes-queued owner old new xs g owner new e f s fails)
    ]) refl

pub one_grant-at_once : (owner : Owner) (m : Mode) (xs : List Asker) → goes_at_once owner m xs ≡ true → one_grant (xs ++ (record { owner = owner; standing = Granted m } ∷ [])) ≡ None
one_grant-at_once owner m xs e =
    let b : Asker = record { owner = owner; standing = Granted m } in
    let conv : find is_converting xs ≡ None = find-none is_converting xs (not-true _ (and-left (not (list_any is_converting xs)) _ e)) in
    let wait : find is_waiting xs ≡ None = find-none is_waiting xs (not-true _ (and-left (not (list_any is_waiting xs)) (goes owner m xs) (and-right (not (list_any is_converting xs)) _ e))) in
    rw (find-push_no is_converting xs b refl, conv, find-push_no is_waiting xs b refl, wait) refl
