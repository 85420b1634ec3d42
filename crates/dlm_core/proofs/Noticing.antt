-- Notices are true, and where somebody waits there is one.
use Rattle.std.proofs.Common.{◌≡◌, ◌≢◌, ◌++◌, ◌&&◌, ◌||◌, inl, inr, ℕ, Bool, true, false, not, List, [], ◌∷◌, Option, Some, None, is_some, map, filter, find, refl, arith, ap, sym, subst, ◌∙◌, cond, Contains, option_map, option_and_then, unwrap_or}
use Rattle.std.specs.List.{flat_map}
use Rattle.std.proofs.lemmas.List.Elements.{Contains-append_left, Contains-append_right}
use Rattle.plain_cat.specs.declared.mode.Mode.{Mode}
use Rattle.plain_cat.specs.Modes.{compatible_modes}
use Rattle.lock_db.specs.declared.name.LockName.{LockName}
use Rattle.lock_db.specs.declared.name.Owner.{Owner}
use Rattle.lock_db.specs.declared.askers.Standing.{Standing}
use Rattle.lock_db.specs.declared.askers.Standing.TheVariants.{Granted}
use Rattle.lock_db.specs.declared.askers.Asker.{Asker}
use Rattle.lock_db.specs.declared.resource.Resource.{Resource}
use Rattle.lock_db.specs.Names.{is_same, same_owner}
use Rattle.lock_db.specs.Queues.{held, wanted, converts, waits, is_converting, is_waiting, is_queued, goes_beside, or_else, head_of, standing_of, mode_of}
use Rattle.lock_db.specs.Tables.{resource_at, all_together}
use Rattle.lock_db.proofs.Lists.{and-left, and-right, not-true, list_all-absent, list_all-find, find-passes}
use Rattle.lock_db.proofs.Owners.{same_owner-same, same_owner-refl}
use Rattle.lock_db.proofs.Names.{is_same-same, is_same-refl}
use Rattle.lock_db.proofs.Rules.{Contains-cases, Contains-first, Contains-later, IsSettled-held_up}
use Rattle.lock_db.proofs.Steps.{IsSettled-at}
use Rattle.dlm_core.specs.declared.messages.Letter.{Letter}
use Rattle.dlm_core.specs.declared.messages.Message.{Message}
use Rattle.dlm_core.specs.declared.holds.Hold.{Hold}
use Rattle.dlm_core.specs.declared.queue.Waiter.{Waiter}
use Rattle.dlm_core.specs.declared.notices.Notice.{Notice}
use Rattle.dlm_core.specs.States.{State, home, recovery, table_at, told_at, is_at, unseen, hold_at, start}
use Rattle.dlm_core.specs.Steps.{is_call, stands_as}
use Rattle.dlm_core.specs.Lanes.{is_kind, letters_of, is_of, waiters_of, IsLane, LaneOf, last_ask, standing_at, queued_as, IsSound}
use Rattle.dlm_core.specs.Lanes.IsLane.{Sends, Stands, Comes}
use Rattle.dlm_core.specs.Runs.{after_all, Waits}
use Rattle.dlm_core.specs.Notices.{is_in_way, notice_to, notices_for, notices, IsTrueNow, IsTold, NoticesAreTrue}
use Rattle.dlm_core.specs.Notices.IsTold.{ByNotice, Calls}
use Rattle.dlm_core.proofs.Sending.{start-sound}
use Rattle.dlm_core.proofs.Beliefs.{at-owner, at-name}
use Rattle.dlm_core.proofs.Holders.{find-contains, filter-contains, contains-filter}
use Rattle.dlm_core.proofs.Restoring.{standing-own}
use Rattle.dlm_core.proofs.Tracing.{Each, each-append, each-split, queue-waits, WaitsIn}
use Rattle.dlm_core.proofs.Truth.{all-sound}

true-false : true ≡ false → ⊥
true-false e = cc

module _ {X : Type 0} where
  none-in : (a : X) → Contains [] a → ⊥
  none-in a (k, l, e) = omega arith

  each-at : (P : X → Type 0) (xs : List X) (x : X) → Each P xs → Contains xs x → P x
  each-at P [] x a c = absurd (none-in x c)
  each-at P (y ∷ ys) x a c = (elim (Contains-cases y ys x c) [ inl h ↦ subst (λ (z : X). P z) h a.0 | inr h ↦ each-at P ys x a.1 h ])

module _ {X Y : Type 0} where
  each-flat : (P : Y → Type 0) (f : X → List Y) (Q : X → Type 0) (xs : List X) → ((x : X) → Q x → Each P (f x)) → Each Q xs → Each P (flat_map f xs)
  each-flat P f Q [] h a = tt
  each-flat P f Q (x ∷ xs) h a = each-append P (f x) (flat_map f xs) (h x a.0) (each-flat P f Q xs h a.1)

  contains-map : (f : X → Y) (xs : List X) (x : X) → Contains xs x → Contains (map f xs) (f x)
  contains-map f [] x c = absurd (none-in x c)
  contains-map f (y ∷ ys) x c =
      (elim (Contains-cases y ys x c) [
        | inl h ↦ subst (λ (z : X). Contains (f y ∷ map f ys) (f z)) h (Contains-first (f y) (map f ys))
        | inr h ↦ Contains-later (f y) (map f ys) (f x) (contains-map f ys x h)
      ])

  contains-flat : (f : X → List Y) (xs : List X) (x : X) (y : Y) → Contains xs x → Contains (f x) y → Contains (flat_map f xs) y
  contains-flat f [] x y c d = absurd (none-in x c)
  contains-flat f (z ∷ zs) x y c d =
      (elim (Contains-cases z zs x c) [
        | inl h ↦ Contains-append_left (f z) (flat_map f zs) y (subst (λ (k : X). Contains (f k) y) (sym h) d)
        | inr h ↦ Contains-append_right (f z) (flat_map f zs) y (contains-flat f zs x y h d)
      ])

-- ---- each is true

record Beside (mode : Mode) (lock : Option Mode) : Type 0 where
  has_mode : Mode
  has : lock ≡ Some has_mode
  apart : compatible_modes mode has_mode ≡ false

beside : (mode : Mode) (lock : Option Mode) → goes_beside mode lock ≡ false → Beside mode lock
beside mode None e = cc
beside mode (Some m) e = record { has_mode = m; has = refl; apart = e }

true-one : (s : State) (w : Waiter) (h : Hold) → WaitsIn s w → is_in_way s w h ≡ true → IsTrueNow s (notice_to s w h)
true-one s w h q e =
    let rest = and-right (is_same h.name w.name) (not (same_owner h.owner w.owner) && not (goes_beside w.mode (mode_of h.owner (told_at w.name s).askers))) e in
    let other : same_owner h.owner w.owner ≡ false = not-true (same_owner h.owner w.owner) (and-left (not (same_owner h.owner w.owner)) (not (goes_beside w.mode (mode_of h.owner (told_at w.name s).askers))) rest) in
    let b = beside w.mode (mode_of h.owner (told_at w.name s).askers) (not-true (goes_beside w.mode (mode_of h.owner (told_at w.name s).askers)) (and-right (not (same_owner h.owner w.owner)) (not (goes_beside w.mode (mode_of h.owner (told_at w.name s).askers))) rest)) in
    record {
      by_master = refl;
      asker = w.owner;
      another = λ k. true-false (sym (same_owner-refl h.owner) ∙ ap (same_owner h.owner) (sym k) ∙ other);
      waits = q;
      lock = b.has_mode;
      has = b.has;
      in_way = b.apart;
    }

true-for : (s : State) (w : Waiter) (hs : List Hold) → WaitsIn s w → Each (λ (n : Notice). IsTrueNow s n) (map (notice_to s w) (filter (is_in_way s w) hs))
true-for s w [] q = tt
true-for s w (h ∷ hs) q =
    (elim (is_in_way s w h) as (λ b. is_in_way s w h ≡ b → Each (λ (n : Notice). IsTrueNow s n) (map (notice_to s w) (cond b (h ∷ filter (is_in_way s w) hs) (filter (is_in_way s w) hs)))) [
      | true ↦ λ e. (true-one s w h q e, true-for s w hs q)
      | false ↦ λ e. true-for s w hs q
    ]) refl

sound-true : (s : State) (n : Notice) → IsSound s → Contains (notices s) n → IsTrueNow s n
sound-true s n i c = each-at (λ (k : Notice). IsTrueNow s k) (notices s) n (each-flat (λ (k : Notice). IsTrueNow s k) (notices_for s) (WaitsIn s) s.queue (λ w q. true-for s w s.holds q) (queue-waits s i)) c

-- ---- where somebody waits

or-none_first : (a b : Option Asker) → or_else a b ≡ None → a ≡ None
or-none_first None b e = refl
or-none_first (Some x) b e = cc

or-none_last : (a b : Option Asker) → or_else a b ≡ None → b ≡ None
or-none_last None b e = e
or-none_last (Some x) b e = cc

neither : (a b : Bool) → not a ≡ true → not b ≡ true → (a || b) ≡ false
neither true b e f = cc
neither false b e f = not-true b f

no-head : (o : Owner) (xs : List Asker) (st : Standing) → standing_of o xs ≡ Some st → is_queued st ≡ true → head_of xs ≡ None → ⊥
no-head o xs st e q h =
    let c = list_all-absent is_converting xs (or-none_first (find is_converting xs) (find is_waiting xs) h) in
    let w = list_all-absent is_waiting xs (or-none_last (find is_converting xs) (find is_waiting xs) h) in
    (elim (find (λ (a : Asker). same_owner a.owner o) xs) as (λ f. find (λ (a : Asker). same_owner a.owner o) xs ≡ f → option_map (λ (a : Asker). a.standing) f ≡ Some st → ⊥) [
      | None ↦ λ f g. cc
      | Some a ↦ λ f g.
          let is : a.standing ≡ st = cc in
          let nc : not (converts a.standing) ≡ true = list_all-find (λ (k : Asker). not (is_converting k)) (λ (k : Asker). same_owner k.owner o) xs a c f in
          let nw : not (waits a.standing) ≡ true = list_all-find (λ (k : Asker). not (is_waiting k)) (λ (k : Asker). same_owner k.owner o) xs a w f in
          true-false (sym q ∙ ap is_queued (sym is) ∙ neither (converts a.standing) (waits a.standing) nc nw)
    ]) refl e

-- the head of the queues
record Head (xs : List Asker) : Type 0 where
  asker : Asker
  first : head_of xs ≡ Some asker
  among : Contains xs asker
  queued : is_queued asker.standing ≡ true

or-yes : (b : Bool) → (b || true) ≡ true
or-yes true = refl
or-yes false = refl

head-at : (xs : List Asker) (a : Asker) → head_of xs ≡ Some a → Contains xs a × (is_queued a.standing ≡ true)
head-at xs a h =
    (elim (find is_converting xs) as (λ f. find is_converting xs ≡ f → or_else f (find is_waiting xs) ≡ Some a → Contains xs a × (is_queued a.standing ≡ true)) [
      | Some k ↦ λ f g. let is : k ≡ a = cc in (find-contains is_converting xs a (f ∙ ap Some is), ap (λ (b : Bool). b || waits a.standing) (find-passes is_converting xs a (f ∙ ap Some is)))
      | None ↦ λ f g. (find-contains is_waiting xs a g, ap (λ (b : Bool). converts a.standing || b) (find-passes is_waiting xs a g) ∙ or-yes (converts a.standing))
    ]) refl h

head-of : (o : Owner) (xs : List Asker) (st : Standing) → standing_of o xs ≡ Some st → is_queued st ≡ true → Head xs
head-of o xs st e q =
    (elim (head_of xs) as (λ f. head_of xs ≡ f → Head xs) [
      | None ↦ λ f. absurd (no-head o xs st e q f)
      | Some a ↦ λ f. let k = head-at xs a f in record { asker = a; first = f; among = k.0; queued = k.1 }
    ]) refl

contained-stands : (xs : List Asker) (a : Asker) → all_together xs ≡ true → Contains xs a → standing_of a.owner xs ≡ Some a.standing
contained-stands xs a t c = each-at (λ (k : Asker). standing_of k.owner xs ≡ Some k.standing) xs a (each-split (λ (k : Asker). standing_of k.owner xs ≡ Some k.standing) xs [] xs refl (λ as1 bs k e. standing-own xs as1 bs k t e)) c

-- who stands in a queue of the table waits at its master
record IsWaiter (s : State) (o : Owner) (x : LockName) (w : Mode) : Type 0 where
  converting : Bool
  among : Contains s.queue (record { owner = o; name = x; mode = w; converts = converting })

queued-wants : (be : Option Mode) (w : Mode) → wanted (queued_as be w) ≡ w
queued-wants None w = refl
queued-wants (Some m) w = refl

not-queued : (lock : Option Mode) (st : Standing) → stands_as lock ≡ Some st → is_queued st ≡ true → ⊥
not-queued None st e q = cc
not-queued (Some m) st e q = let is : Granted m ≡ st = cc in let f : is_queued (Granted m) ≡ true = ap is_queued is ∙ q in cc

lane-waiter : (s : State) (o : Owner) (x : LockName) (st : Standing) (at0 : Option Standing) (calls grants : List Letter) (qu : List Waiter) (be wa : Option Mode) → at0 ≡ Some st → qu ≡ waiters_of o x s.queue → is_queued st ≡ true
    → IsLane o x at0 calls grants qu be wa → IsWaiter s o x (wanted st)
lane-waiter s o x st at0 calls grants qu be wa h e q (Sends lock before at gr qe ca lo mw) = absurd (not-queued lock st (sym at ∙ h) q)
lane-waiter s o x st at0 calls grants qu be wa h e q (Stands w wt at ca gr qe ra) =
    let is : st ≡ queued_as be w = cc in
    let one : Waiter = record { owner = o; name = x; mode = w; converts = is_some be } in
    let k = filter-contains (is_of o x) s.queue one (subst (λ (ws : List Waiter). Contains ws one) (sym qe ∙ e) (Contains-first one [])) in
    subst (λ (m : Mode). IsWaiter s o x m) (sym (ap wanted is ∙ queued-wants be w)) (record { converting = is_some be; among = k.0 })
lane-waiter s o x st at0 calls grants qu be wa h e q (Comes w wt at ca ig qe ra) = let is : Granted w ≡ st = cc in let f : is_queued (Granted w) ≡ true = ap is_queued is ∙ q in absurd (true-false (sym f))

-- who has a lock and of whom nothing is noted has a call on its way
record HasCall (s : State) (o : Owner) (x : LockName) : Type 0 where
  call : Message
  among : Contains s.mail call
  kind : is_kind false o x call ≡ true

letters-some : (s : State) (o : Owner) (x : LockName) (ms : List Message) (l : Letter) (ls : List Letter) → ms ≡ filter (is_kind false o x) s.mail → map (λ (m : Message). m.letter) ms ≡ l ∷ ls → HasCall s o x
letters-some s o x [] l ls e f = cc
letters-some s o x (m ∷ ms) l ls e f =
    let k = filter-contains (is_kind false o x) s.mail m (subst (λ (ns : List Message). Contains ns m) e (Contains-first m ms)) in
    record { call = m; among = k.0; kind = k.1 }

lane-call : (s : State) (o : Owner) (x : LockName) (at0 : Option Standing) (calls grants : List Letter) (qu : List Waiter) (be wa : Option Mode) (m : Mode) → option_and_then held at0 ≡ Some m → calls ≡ letters_of false o x s.mail → be ≡ None → wa ≡ None
    → IsLane o x at0 calls grants qu be wa → HasCall s o x
lane-call s o x at0 calls grants qu be wa m hm e n1 n2 (Sends None before at gr qe ca lo mw) = let k : option_and_then held at0 ≡ None = ap (λ (f : Option Standing). option_and_then held f) at in cc
lane-call s o x at0 calls grants qu be wa m hm e n1 n2 (Sends (Some k) [] at gr qe ca lo mw) = cc
lane-call s o x at0 calls grants qu be wa m hm e n1 n2 (Sends (Some k) (l ∷ ls) at gr qe ca lo mw) = letters-some s o x (filter (is_kind false o x) s.mail) l (ls ++ last_ask wa) refl (sym e ∙ ca)
lane-call s o x at0 calls grants qu be wa m hm e n1 n2 (Stands w wt at ca gr qe ra) = cc
lane-call s o x at0 calls grants qu be wa m hm e n1 n2 (Comes w wt at ca ig qe ra) = cc

no-queue : (s : State) (o : Owner) (x : LockName) (d : ℕ) (st : Standing) → IsSound s → recovery x s ≡ Some d → standing_at o x s ≡ Some st → ⊥
no-queue s o x d st i r e =
    let empty : table_at (home s.nodes x) s.tables ≡ [] = i.lost (home s.nodes x) (ap is_some r) in
    let none : standing_at o x s ≡ None = ap (λ (t : List Resource). standing_of o (resource_at x t).askers) empty in
    cc

open-lane : (s : State) (o : Owner) (x : LockName) (st : Standing) → IsSound s → standing_at o x s ≡ Some st → LaneOf None o x s
open-lane s o x st i e =
    (elim (recovery x s) as (λ r. recovery x s ≡ r → LaneOf r o x s → LaneOf None o x s) [ None ↦ λ r l. l | Some d ↦ λ r l. absurd (no-queue s o x d st i r e) ]) refl (i.lanes o x)

told-one : (s : State) (x : LockName) (a b : Asker) (w : Waiter) → IsSound s → w.owner ≡ a.owner → w.name ≡ x → w.mode ≡ wanted a.standing → Contains s.queue w → b.owner ≢ a.owner → goes_beside (wanted a.standing) (held b.standing) ≡ false
    → standing_at b.owner x s ≡ Some b.standing → IsTold s x
told-one s x a b w i wo wn wm c d g st =
    let lock : mode_of b.owner (told_at x s).askers ≡ held b.standing = ap (λ (f : Option Standing). option_and_then held f) st in
    let k = beside (wanted a.standing) (held b.standing) g in
    let other : same_owner b.owner a.owner ≡ false = apart b.owner a.owner d in
    (elim (find (is_at b.owner x) s.holds) as (λ f. find (is_at b.owner x) s.holds ≡ f → IsTold s x) [
      | Some h ↦ λ f.
          let at = find-passes (is_at b.owner x) s.holds h f in
          let ho : h.owner ≡ b.owner = at-owner b.owner x h at in
          let hn : h.name ≡ x = at-name b.owner x h at in
          let way : is_in_way s w h ≡ true = rw (ho, hn, wo, wn, wm, is_same-refl x, other, lock, g) refl in
          let for_h : Contains (notices_for s w) (notice_to s w h) = contains-map (notice_to s w) (filter (is_in_way s w) s.holds) h (contains-filter (is_in_way s w) s.holds h way (find-contains (is_at b.owner x) s.holds h f)) in
          ByNotice (notice_to s w h) (contains-flat (notices_for s) s.queue w (notice_to s w h) c for_h) wn
      | None ↦ λ f.
          let be : (hold_at b.owner x s.holds).belief ≡ None = ap (λ (o : Option Hold). (unwrap_or o (record { owner = b.owner; name = x; belief = None; wait = None; seen = unseen })).belief) f in
          let wa : (hold_at b.owner x s.holds).wait ≡ None = ap (λ (o : Option Hold). (unwrap_or o (record { owner = b.owner; name = x; belief = None; wait = None; seen = unseen })).wait) f in
          let call = lane-call s b.owner x (standing_at b.owner x s) (letters_of false b.owner x s.mail) (letters_of true b.owner x s.mail) (waiters_of b.owner x s.queue) (hold_at b.owner x s.holds).belief (hold_at b.owner x s.holds).wait k.has_mode (lock ∙ k.has) refl be wa (open-lane s b.owner x b.standing i st) in
          let about = and-right (is_call call.call.letter) (same_owner call.call.owner b.owner && is_same call.call.name x) call.kind in
          let co : call.call.owner ≡ b.owner = same_owner-same call.call.owner b.owner (and-left (same_owner call.call.owner b.owner) (is_same call.call.name x) about) in
          let cn : call.call.name ≡ x = is_same-same call.call.name x (and-right (same_owner call.call.owner b.owner) (is_same call.call.name x) about) in
          Calls call.call call.among cn (and-left (is_call call.call.letter) (same_owner call.call.owner b.owner && is_same call.call.name x) call.kind)
          (ap (λ (o : Owner). is_some (mode_of o (told_at x s).askers)) co ∙ ap is_some (lock ∙ k.has))
    ]) refl
  where
    apart : (p q : Owner) → p ≢ q → same_owner p q ≡ false
    apart p q d = (elim (same_owner p q) as (λ b. same_owner p q ≡ b → b ≡ false) [ true ↦ λ e. absurd (d (same_owner-same p q e)) | false ↦ λ e. refl ]) refl

sound-told : (s : State) (o : Owner) (x : LockName) (mode : Mode) → IsSound s → Waits s.nodes s.tables o x mode → IsTold s x
sound-told s o x mode i q =
    let xs : List Asker = (told_at x s).askers in
    let settled = IsSettled-at x (table_at (home s.nodes x) s.tables) (i.tables_are (home s.nodes x)) in
    let head = head-of o xs q.standing q.stands q.queued in
    let a : Asker = head.asker in
    let held_up = IsSettled-held_up xs a settled head.first in
    let b : Asker = held_up.0 in
    let sa : standing_at a.owner x s ≡ Some a.standing = contained-stands xs a settled.together head.among in
    let sb : standing_at b.owner x s ≡ Some b.standing = contained-stands xs b settled.together held_up.1 in
    let w = lane-waiter s a.owner x a.standing (standing_at a.owner x s) (letters_of false a.owner x s.mail) (letters_of true a.owner x s.mail) (waiters_of a.owner x s.queue) (hold_at a.owner x s.holds).belief (hold_at a.owner x s.holds).wait sa refl head.queued (open-lane s a.owner x a.standing i sa) in
    told-one s x a b (record { owner = a.owner; name = x; mode = wanted a.standing; converts = w.converting }) i refl refl refl w.among held_up.2 held_up.3 sb

pub all-noticed : NoticesAreTrue
all-noticed = record {
  are_true = λ rule nodes es n l c. sound-true (after_all (start rule nodes) es) n (all-sound es (start rule nodes) (start-sound rule nodes l)) c;
  are_told = λ rule nodes es o x mode l q.
      sound-told (after_all (start rule nodes) es) o x mode (all-sound es (start rule nodes) (start-sound rule nodes l)) q;
}
