-- What may be read once a recovery has ended.
use Rattle.std.proofs.Common.{◌≡◌, ◌≢◌, ◌&&◌, ◌++◌, ℕ, Bool, true, false, not, List, [], ◌∷◌, Option, Some, None, is_some, filter, find, length, ◌≤◌, refl, ap, sym, subst, ◌∙◌, cond, if◌then◌else◌, unwrap_or, option_and_then, append_assoc, Contains}
use Rattle.std.specs.List.{list_all, list_any}
use Rattle.std.proofs.lemmas.List.Elements.{filter-append}
use Rattle.plain_cat.specs.declared.mode.Mode.{Mode}
use Rattle.lock_db.specs.declared.name.LockName.{LockName}
use Rattle.lock_db.specs.declared.name.Owner.{Owner}
use Rattle.lock_db.specs.declared.askers.Standing.{Standing}
use Rattle.lock_db.specs.declared.askers.Asker.{Asker}
use Rattle.lock_db.specs.declared.resource.Resource.{Resource}
use Rattle.lock_db.specs.Names.{is_same, same_owner}
use Rattle.lock_db.specs.Queues.{held, standing_of, mode_of}
use Rattle.lock_db.specs.Resources.{fresh, is_used, is_writing_held}
use Rattle.lock_db.specs.Tables.{resource_at, IsTable, recovered}
use Rattle.lock_db.specs.Laws.{LeavesOthers}
use Rattle.lock_db.proofs.Lists.{and-left, and-right, and-both, not-true, or-false_left, or-false_right, list_all-head, list_all-tail, list_all-find, list_all-every, list_all-passing, list_all-weaker, list_all-filter, find-passes, list_any-none}
use Rattle.lock_db.proofs.Owners.{same_owner-refl}
use Rattle.lock_db.proofs.Names.{is_same-same, is_same-refl}
use Rattle.lock_db.proofs.Blocks.{recovered-leaves, recovered-at}
use Rattle.dlm_core.specs.declared.messages.Letter.{Letter}
use Rattle.dlm_core.specs.declared.messages.Letter.TheVariants.{Ask, Drop, Grant, Claim}
use Rattle.dlm_core.specs.declared.messages.Message.{Message}
use Rattle.dlm_core.specs.declared.holds.Hold.{Hold}
use Rattle.dlm_core.specs.declared.blocks.Seen.{Seen}
use Rattle.dlm_core.specs.declared.blocks.Block.{Block}
use Rattle.dlm_core.specs.declared.blocks.Version.{Version}
use Rattle.dlm_core.specs.declared.queue.Waiter.{Waiter}
use Rattle.dlm_core.specs.declared.rules.BlockRule.{BlockRule}
use Rattle.dlm_core.specs.declared.rules.BlockRule.TheVariants.{OfHolders}
use Rattle.dlm_core.specs.Modes.{is_lowering, crosses, writes}
use Rattle.dlm_core.specs.States.{State, home, master, recovery, table_at, told_at, is_at, hold_at, is_between, past_first}
use Rattle.dlm_core.specs.Steps.{is_call, stands_as, ask_made, put_last, drop_made, with_table, versions_after, grants_of, served, taken_from, taken, taken_all}
use Rattle.dlm_core.specs.Recoveries.{is_of_recovery, is_name_of, is_with, is_strong, latest, unmarked, kept_by, held_block, block_for, again, made_again, reclaimed_lock, reclaimed, asked_again, all_asked_again, closed, ended, is_open, ended_if, all_ended}
use Rattle.dlm_core.specs.Restored.{has_lock}
use Rattle.dlm_core.specs.Lanes.{is_about, is_kind, letters_of, has_kind, IsLane, LaneOf, MayWait, last_ask, lowered, standing_at, waiters_of, is_kept, is_addressed, each_once, IsSound}
use Rattle.dlm_core.specs.Lanes.IsLane.{Sends, Stands, Comes}
use Rattle.dlm_core.proofs.Ahead.{marked, OK, wrote_then, letters, next_lock, ahead, Val, gone-val, unmarked-val, weak-quiet, conv-writes}
use Rattle.dlm_core.proofs.Modes.{raises-not_lower}
use Rattle.dlm_core.proofs.Safety.{held-stands}
use Rattle.dlm_core.proofs.Beliefs.{at-name, at-itself, at-turned, once-filter}
use Rattle.dlm_core.proofs.Restoring.{nothing_of, hold-none}
use Rattle.dlm_core.proofs.Others.{can-mode, used_made}
use Rattle.dlm_core.proofs.Takes.{Call, called_so, told-here, told-other, call-sound, served-sound}
use Rattle.dlm_core.proofs.Passing.{CanAsk, call-first, ask-call, head-ask, ask-stands, call-again, taken-sound}
use Rattle.dlm_core.proofs.Dying.{kept-where}
use Rattle.dlm_core.proofs.Recovering.{ended-sound, asks_one, asks_of, asks-calls, claims_of, kept_of, at_hand, restored, IsRestored, restored-sound, hold-filter, kind-filtered, any-filtered, asks-none, with_tables, reclaim-all, restore-start, front, find-front, past-front, none-some, is_open_call, open-claims, open-kept, open-closed, still-closed, recovery-asked, all-asked}
use Rattle.dlm_core.proofs.Tracing.{Each, each-append, Says}
use Rattle.dlm_core.proofs.Trails.{of-recovery, ended-stays, recovery-is}
use Rattle.dlm_core.proofs.Sending.{not-about}
use Rattle.dlm_core.proofs.Holding.{calls_of, lock_in, calls_in, block_in, seen_block, ValOf, GrantOK, Values, val-same, served-values}
use Rattle.dlm_core.proofs.Arrivals.{zeros, block_at1, Made1, unused, call-values, ask-block, ask-made1, first-calls, taken-values}

true-false : true ≡ false → ⊥
true-false e = cc

-- ---- who is found in a list

module _ {X : Type 0} where
  any-found : (p q : X → Bool) (xs : List X) (a : X) → find q xs ≡ Some a → list_any p xs ≡ false → p a ≡ false
  any-found p q [] a f e = cc
  any-found p q (x ∷ xs) a f e =
      (elim (q x) as (λ b. cond b (Some x) (find q xs) ≡ Some a → p a ≡ false) [
        | true ↦ λ g. let is : x ≡ a = cc in subst (λ (y : X). p y ≡ false) is (or-false_left (p x) (list_any p xs) e)
        | false ↦ λ g. any-found p q xs a g (or-false_right (p x) (list_any p xs) e)
      ]) f

  any-some : (p : X → Bool) (xs : List X) → list_any p xs ≡ true → (a : X) × (find p xs ≡ Some a)
  any-some p xs e =
      (elim (find p xs) as (λ f. find p xs ≡ f → (a : X) × (f ≡ Some a)) [
        | None ↦ λ f. absurd (true-false (sym e ∙ list_any-none p xs f))
        | Some a ↦ λ f. (a, refl)
      ]) refl

once-found : (p : Hold → Bool) (hs : List Hold) (h : Hold) → each_once hs ≡ true → find p hs ≡ Some h → hold_at h.owner h.name hs ≡ h
once-found p [] h e f = cc
once-found p (k ∷ ks) h e f =
    let first : list_any (is_at k.owner k.name) ks ≡ false = not-true (list_any (is_at k.owner k.name) ks) (and-left (not (list_any (is_at k.owner k.name) ks)) (each_once ks) e) in
    let rest = and-right (not (list_any (is_at k.owner k.name) ks)) (each_once ks) e in
    (elim (p k) as (λ b. cond b (Some k) (find p ks) ≡ Some h → hold_at h.owner h.name (k ∷ ks) ≡ h) [
      | true ↦ λ g. let is : k ≡ h = cc in subst (λ (j : Hold). hold_at j.owner j.name (k ∷ ks) ≡ j) is (rw (at-itself k) refl)
      | false ↦ λ g.
          let out : is_at h.owner h.name k ≡ false = at-turned k h (any-found (is_at k.owner k.name) p ks h g first) in
          rw out (once-found p ks h rest g)
    ]) f

none-if : (o : Option Mode) → is_some o ≡ false → o ≡ None
none-if None e = refl
none-if (Some m) e = cc

and-last : (a b : Bool) → (a && b) ≡ false → a ≡ true → b ≡ false
and-last true b e f = e
and-last false b e f = cc

-- what an owner claims or believes where nobody has such a lock
none-such : (p : Option Mode → Bool) (o : Owner) (x : LockName) (hs : List Hold) → p None ≡ false → list_any (λ h. is_same h.name x && p h.belief) hs ≡ false → p (hold_at o x hs).belief ≡ false
none-such p o x hs n e =
    (elim (find (is_at o x) hs) as (λ f. find (is_at o x) hs ≡ f → p (unwrap_or f (nothing_of o x)).belief ≡ false) [
      | None ↦ λ f. n
      | Some h ↦ λ f.
          let out : (is_same h.name x && p h.belief) ≡ false = any-found (λ (k : Hold). is_same k.name x && p k.belief) (is_at o x) hs h f e in
          and-last (is_same h.name x) (p h.belief) out (rw (at-name o x h (find-passes (is_at o x) hs h f)) (is_same-refl x))
    ]) refl

lock-none : (o : Owner) (x : LockName) (hs : List Hold) → has_lock x hs ≡ false → (hold_at o x hs).belief ≡ None
lock-none o x hs e = none-if (hold_at o x hs).belief (none-such (λ b. is_some b) o x hs refl e)

-- where no owner believes a lock nobody has one
pub lockless : (x : LockName) (hs : List Hold) → each_once hs ≡ true → ((o : Owner) → (hold_at o x hs).belief ≡ None) → has_lock x hs ≡ false
lockless x hs e n =
    let p : Hold → Bool = λ h. is_same h.name x && is_some h.belief in
    (elim (has_lock x hs) as (λ b. has_lock x hs ≡ b → b ≡ false) [
      | true ↦ λ f.
          let g = any-some p hs f in
          let passes : p g.0 ≡ true = find-passes p hs g.0 g.1 in
          let named : g.0.name ≡ x = is_same-same g.0.name x (and-left (is_same g.0.name x) (is_some g.0.belief) passes) in
          let own : hold_at g.0.owner x hs ≡ g.0 = subst (λ (y : LockName). hold_at g.0.owner y hs ≡ g.0) named (once-found p hs g.0 e g.1) in
          let none : g.0.belief ≡ None = ap (λ (h : Hold). h.belief) (sym own) ∙ n g.0.owner in
          absurd (true-false (sym (and-right (is_same g.0.name x) (is_some g.0.belief) passes) ∙ ap is_some none))
      | false ↦ λ f. refl
    ]) refl

-- ---- where nobody has a lock at a master

some-of-stands : (lock : Option Mode) → stands_as lock ≡ None → lock ≡ None
some-of-stands None e = refl
some-of-stands (Some m) e = cc

lowered-none : (ls : List Letter) (be : Option Mode) → lowered None ls ≡ Some be → be ≡ None
lowered-none [] be e = cc
lowered-none (l ∷ ls) be e = cc

lane-none : (o : Owner) (x : LockName) (st : Option Standing) (calls grants : List Letter) (qu : List Waiter) (be wa : Option Mode) → st ≡ None → IsLane o x st calls grants qu be wa → be ≡ None
lane-none o x st calls grants qu be wa n (Sends lock before s gr q ca lo mw) =
    let none : lock ≡ None = some-of-stands lock (sym s ∙ n) in
    lowered-none before be (ap (λ (z : Option Mode). lowered z before) (sym none) ∙ lo)
lane-none o x st calls grants qu be wa n (Stands w wt s ca gr q ra) = cc
lane-none o x st calls grants qu be wa n (Comes w wt s ca ig q ra) = cc

pub unused-nobody : (x : LockName) (s : State) → IsSound s → recovery x s ≡ None → is_used (told_at x s) ≡ false → (o : Owner) → (hold_at o x s.holds).belief ≡ None
unused-nobody x s i n u o =
    let lane : LaneOf None o x s = subst (λ (r : Option ℕ). LaneOf r o x s) n (i.lanes o x) in
    let st : standing_at o x s ≡ None = ap (standing_of o) (unused (told_at x s).askers u) in
    lane-none o x (standing_at o x s) (letters_of false o x s.mail) (letters_of true o x s.mail) (waiters_of o x s.queue) (hold_at o x s.holds).belief (hold_at o x s.holds).wait st lane

claimed-nobody : (x : LockName) (d : ℕ) (s : State) → IsSound s → recovery x s ≡ Some d → (o : Owner) → (hold_at o x s.claims).belief ≡ None → (hold_at o x s.holds).belief ≡ None
claimed-nobody x d s i n o e =
    let lane : LaneOf (Some d) o x s = subst (λ (r : Option ℕ). LaneOf r o x s) n (i.lanes o x) in
    lane-none o x (stands_as (hold_at o x s.claims).belief) _ [] [] (hold_at o x s.holds).belief (hold_at o x s.holds).wait (ap stands_as e) lane.lane

-- a name that nobody has in a table has zeros
pub table-fresh : (x : LockName) (t : List Resource) → IsTable t → is_used (resource_at x t) ≡ false → block_at1 x t ≡ Some zeros
table-fresh x t i u =
    (elim (find (λ (r : Resource). is_same r.name x) t) as (λ f. find (λ (r : Resource). is_same r.name x) t ≡ f → is_used (unwrap_or f (fresh x)) ≡ false → marked (unwrap_or f (fresh x)).valid (unwrap_or f (fresh x)).value ≡ Some zeros) [
      | None ↦ λ f k. refl
      | Some r ↦ λ f k. absurd (true-false (sym (list_all-find is_used (λ (z : Resource). is_same z.name x) t r i.used f) ∙ k))
    ]) refl u

all-none : (xs : List Asker) → ((o : Owner) → standing_of o xs ≡ None) → xs ≡ []
all-none [] h = refl
all-none (a ∷ xs) h = let k : standing_of a.owner (a ∷ xs) ≡ Some a.standing = rw (same_owner-refl a.owner) refl in let z : Some a.standing ≡ None = sym k ∙ h a.owner in cc

-- what claims without a strong lock leave is not valid
unmarked-none : (o : Option Hold) → seen_block (unmarked o) ≡ None
unmarked-none None = refl
unmarked-none (Some h) = refl

unmarked-off : (o : Option Hold) → (unmarked o).valid ≡ false
unmarked-off None = refl
unmarked-off (Some h) = refl

-- ---- the claimed locks are granted

-- a claimed ask lowers nothing
ahead-silent : (lock wa : Option Mode) (ms ns : List Message) (cur : Option (List ℕ)) → letters ms ≡ last_ask wa → MayWait lock wa → ahead lock (ms ++ ns) cur ≡ ahead lock ns cur
ahead-silent lock wa [] ns cur e m = refl
ahead-silent lock None (k ∷ ms) ns cur e m = cc
ahead-silent lock (Some w) (k ∷ (j ∷ ms)) ns cur e m = cc
ahead-silent None (Some w) (k ∷ []) ns cur e m = refl
ahead-silent (Some b) (Some w) (k ∷ []) ns cur e m =
    let l : k.letter ≡ Ask w = cc in
    let n : is_lowering b w ≡ false = raises-not_lower (Some b) w m in
    ap (λ (z : Letter). ahead (next_lock (Some b) z) ns (wrote_then (writes (Some b) z) k.value cur)) l ∙ silent b w n
  where
    silent : (b w : Mode) → is_lowering b w ≡ false → ahead (next_lock (Some b) (Ask w)) ns (wrote_then (writes (Some b) (Ask w)) k.value cur) ≡ ahead (Some b) ns cur
    silent b w n = let q : writes (Some b) (Ask w) ≡ false = ap (λ (z : Bool). is_writing_held (Some b) && z) n ∙ off (is_writing_held (Some b)) in rw (q, n) refl
      where
        off : (c : Bool) → (c && false) ≡ false
        off true = refl
        off false = refl

module _ (R : LockName → List (List ℕ)) (d : ℕ) (bs : LockName → Seen) (s : State) (ts : List (List Resource)) (vs : List Version) (i : IsSound s) (r : IsRestored d bs s ts) (a : Values R s)
    (held_so : (x : LockName) → bs x ≡ held_block x (claims_of d s)) (zero1 : (x : LockName) → is_some (recovery x s) ≡ true → has_lock x s.holds ≡ false → Contains (R x) zeros) where
  abbrev now : State
  now = restored d bs s ts vs

  abbrev hs : List Hold
  hs = claims_of d s

  abbrev asks : List Message
  asks = asks_of bs (λ x. master x (closed d s)) hs

  calls-hand : (o : Owner) (x : LockName) → calls_of o x now.mail ≡ (calls_of o x asks ++ calls_of o x (kept_of d s)) ++ calls_of o x s.mail
  calls-hand o x = filter-append (is_kind false o x) (at_hand d bs s) s.mail ∙ ap (λ (ms : List Message). ms ++ calls_of o x s.mail) (filter-append (is_kind false o x) asks (kept_of d s))

  once : each_once hs ≡ true
  once = once-filter (λ h. is_name_of d s h.name) s.claims i.claimed_once

  module _ (x : LockName) (e : is_name_of d s x ≡ true) where
    same : (o : Owner) → hold_at o x hs ≡ hold_at o x s.claims
    same o = hold-filter (is_name_of d s) o x s.claims e

    lock-now : (o : Owner) → lock_in None x now o ≡ (hold_at o x s.claims).belief
    lock-now o = ap (λ (z : Option Standing). option_and_then held z) (r.ours o x e ∙ ap (λ (h : Hold). stands_as h.belief) (same o)) ∙ held-stands (hold_at o x s.claims).belief

    kept-mine : (o : Owner) → calls_of o x (kept_of d s) ≡ calls_of o x s.kept
    kept-mine o = kept-where (λ m. true) (is_kind false o x) (λ m. is_name_of d s m.name) s.kept (list_all-every (λ m. true) s.kept (λ m. refl))
        (λ m t k. let named : m.name ≡ x = is_same-same m.name x (and-right (same_owner m.owner o) (is_same m.name x) (and-right (has_kind false m.letter) (is_about o x m) k)) in rw named e)

    ahead-now : (o : Owner) (cur : Option (List ℕ)) → ahead (lock_in None x now o) (calls_in None x now o) cur ≡ ahead (lock_in (Some d) x s o) (calls_in (Some d) x s o) cur
    ahead-now o cur =
        let be : Option Mode = (hold_at o x s.claims).belief in
        let as1 : List Message = calls_of o x asks in
        let rest : List Message = calls_of o x s.kept ++ calls_of o x s.mail in
        let said : letters as1 ≡ last_ask (hold_at o x s.claims).wait = asks-calls o x bs (λ y. master y (closed d s)) hs once ∙ ap (λ (h : Hold). last_ask h.wait) (same o) in
        let list : calls_in None x now o ≡ as1 ++ rest = calls-hand o x ∙ ap (λ (ms : List Message). (as1 ++ ms) ++ calls_of o x s.mail) (kept-mine o) ∙ append_assoc as1 (calls_of o x s.kept) (calls_of o x s.mail) in
        ap (λ (z : Option Mode). ahead z (calls_in None x now o) cur) (lock-now o) ∙ ap (λ (ms : List Message). ahead be ms cur) list ∙ ahead-silent be (hold_at o x s.claims).wait as1 rest cur said (a.waits o x)

    val-from : (cur : Option (List ℕ)) → Val (R x) (lock_in (Some d) x s) (calls_in (Some d) x s) cur → Val (R x) (lock_in None x now) (calls_in None x now) cur
    val-from cur v o free =
        let f : (p : Owner) → p ≢ o → is_writing_held (lock_in (Some d) x s p) ≡ false = λ p q. ap is_writing_held (sym (lock-now p)) ∙ free p q in
        subst (λ (b : Option (List ℕ)). OK (R x) b) (sym (ahead-now o cur)) (v o f)

    here : recovery x s ≡ Some d
    here = of-recovery d (recovery x s) e

    abbrev strong : Hold → Bool
    strong h = is_same h.name x && is_strong h.belief

    -- what the claims keep
    val-kept : (f : Option Hold) → find strong hs ≡ f → Val (R x) (lock_in None x now) (calls_in None x now) (seen_block (kept_by f (latest x hs)))
    val-kept (Some h) f =
        let passes : strong h ≡ true = find-passes strong hs h f in
        let named : h.name ≡ x = is_same-same h.name x (and-left (is_same h.name x) (is_strong h.belief) passes) in
        let own : hold_at h.owner x s.claims ≡ h = sym (same h.owner) ∙ subst (λ (y : LockName). hold_at h.owner y hs ≡ h) named (once-found strong hs h once f) in
        let v : ValOf (Some d) (R x) x s = subst (λ (q : Option ℕ). ValOf q (R x) x s) here (a.val x) in
        let is : is_strong (hold_at h.owner x s.claims).belief ≡ true = ap (λ (k : Hold). is_strong k.belief) own ∙ and-right (is_same h.name x) (is_strong h.belief) passes in
        val-from (seen_block h.seen) (subst (λ (k : Hold). Val (R x) (lock_in (Some d) x s) (calls_in (Some d) x s) (seen_block k.seen)) own (v h.owner is))
    val-kept None f =
        let none : list_any strong hs ≡ false = list_any-none strong hs f in
        subst (λ (b : Option (List ℕ)). Val (R x) (lock_in None x now) (calls_in None x now) b) (sym (unmarked-none (latest x hs))) (gone-val (R x) (lock_in None x now) (calls_in None x now) None
        (λ o. ap is_writing_held (lock-now o ∙ ap (λ (h : Hold). h.belief) (sym (same o))) ∙ weak-quiet (hold_at o x hs).belief (none-such (λ b. is_strong b) o x hs refl none)) tt)

    val-locked : has_lock x hs ≡ true → Val (R x) (lock_in None x now) (calls_in None x now) (block_in x now)
    val-locked h =
        let b = r.blocks x e h in
        let is : block_in x now ≡ seen_block (held_block x hs) = (let q : marked (told_at x now).valid (told_at x now).value ≡ seen_block (bs x) = rw (b.mark_is, b.bytes_are) refl in q) ∙ ap seen_block (held_so x) in
        subst (λ (c : Option (List ℕ)). Val (R x) (lock_in None x now) (calls_in None x now) c) (sym is) (val-kept (find strong hs) refl)

    val-empty : has_lock x hs ≡ false → Val (R x) (lock_in None x now) (calls_in None x now) (block_in x now)
    val-empty h =
        let no_claim : (o : Owner) → (hold_at o x s.claims).belief ≡ None = λ o. ap (λ (k : Hold). k.belief) (sym (same o)) ∙ lock-none o x hs h in
        let none : (told_at x now).askers ≡ [] = all-none (told_at x now).askers (λ o. r.ours o x e ∙ ap (λ (k : Hold). stands_as k.belief) (same o) ∙ ap stands_as (no_claim o)) in
        let fresh1 : block_in x now ≡ Some zeros = table-fresh x (table_at (home s.nodes x) ts) (r.tables_are (home s.nodes x)) (rw none refl) in
        let nobody : has_lock x s.holds ≡ false = lockless x s.holds i.once (λ o. claimed-nobody x d s i here o (no_claim o)) in
        gone-val (R x) (lock_in None x now) (calls_in None x now) (block_in x now) (λ o. ap is_writing_held (lock-now o ∙ no_claim o))
        (subst (λ (b : Option (List ℕ)). OK (R x) b) (sym fresh1) (zero1 x (ap is_some here) nobody))

    val-mine : ValOf None (R x) x now
    val-mine = (elim (has_lock x hs) as (λ b. has_lock x hs ≡ b → Val (R x) (lock_in None x now) (calls_in None x now) (block_in x now)) [ true ↦ val-locked | false ↦ val-empty ]) refl

  module _ (x : LockName) (e : is_name_of d s x ≡ false) where
    hand-none : (o : Owner) → calls_of o x now.mail ≡ calls_of o x s.mail
    hand-none o =
        let none1 : calls_of o x asks ≡ [] = nothing (calls_of o x asks) (asks-none o x bs (λ y. master y (closed d s)) hs (any-filtered (is_name_of d s) o x s.claims e)) in
        let none2 : calls_of o x (kept_of d s) ≡ [] = nothing (calls_of o x (kept_of d s)) (kind-filtered (is_name_of d s) false o x s.kept e) in
        calls-hand o x ∙ rw (none1, none2) refl
      where
        nothing : (ms : List Message) → letters ms ≡ [] → ms ≡ []
        nothing [] q = refl
        nothing (m ∷ ms) q = cc

    keeps : not (is_name_of d s x) ≡ true
    keeps = ap not e

    kept-theirs : (o : Owner) → calls_of o x now.kept ≡ calls_of o x s.kept
    kept-theirs o = kept-where (λ m. true) (is_kind false o x) (λ m. not (is_name_of d s m.name)) s.kept (list_all-every (λ m. true) s.kept (λ m. refl))
        (λ m t k. let named : m.name ≡ x = is_same-same m.name x (and-right (same_owner m.owner o) (is_same m.name x) (and-right (has_kind false m.letter) (is_about o x m) k)) in rw (named, e) refl)

    claim-same : (o : Owner) → hold_at o x now.claims ≡ hold_at o x s.claims
    claim-same o = hold-filter (λ y. not (is_name_of d s y)) o x s.claims keeps

    val-theirs : (q : Option ℕ) → ValOf q (R x) x s → ValOf q (R x) x now
    val-theirs None v =
        let told : told_at x now ≡ told_at x s = r.others x e in
        val-same (R x) (lock_in None x s) (lock_in None x now) (calls_in None x s) (calls_in None x now) (block_in x s) (block_in x now) (λ o. ap (λ (z : Resource). option_and_then held (standing_of o z.askers)) told) hand-none (ap (λ (z : Resource). marked z.valid z.value) told) v
    val-theirs (Some k) v = λ c f.
        let g : is_strong (hold_at c x s.claims).belief ≡ true = ap (λ (h : Hold). is_strong h.belief) (sym (claim-same c)) ∙ f in
        val-same (R x) (lock_in (Some k) x s) (lock_in (Some k) x now) (calls_in (Some k) x s) (calls_in (Some k) x now) (seen_block (hold_at c x s.claims).seen) (seen_block (hold_at c x now.claims).seen) (λ o. ap (λ (h : Hold). h.belief) (claim-same o))
        (λ o. rw (kept-theirs o, hand-none o) refl) (ap (λ (h : Hold). seen_block h.seen) (claim-same c)) (v c g)

  asks-plain : (ks : List Hold) (at : LockName → ℕ) → Each (GrantOK R) (asks_of bs at ks)
  asks-plain [] at = tt
  asks-plain (h ∷ ks) at = each-append (GrantOK R) (asks_one h.wait (bs h.name) (at h.name) h) (asks_of bs at ks) (one h.wait h) (asks-plain ks at)
    where
      one : (w : Option Mode) (h : Hold) → Each (GrantOK R) (asks_one w (bs h.name) (at h.name) h)
      one None h = tt
      one (Some w) h = (tt, tt)

  calls-plain : (ms : List Message) → list_all (is_kept s) ms ≡ true → Each (GrantOK R) ms
  calls-plain [] q = tt
  calls-plain (m ∷ ms) q = (plain m m.letter (and-left (is_call m.letter) (is_addressed s m) (list_all-head (is_kept s) m ms q)), calls-plain ms (list_all-tail (is_kept s) m ms q))
    where
      plain : (m : Message) (l : Letter) → is_call l ≡ true → Says (λ w v. is_strong (Some w) ≡ true → OK (R m.name) (marked v m.value)) l
      plain m (Ask w) k = tt
      plain m Drop k = tt
      plain m (Grant w v) k = cc
      plain m (Claim n) k = cc

  pub restored-values : list_all (is_kept s) (kept_of d s) ≡ true → Values R now
  restored-values kept1 = record {
    val = λ x. (elim (is_name_of d s x) as (λ b. is_name_of d s x ≡ b → ValOf (recovery x now) (R x) x now) [
      | true ↦ λ e. subst (λ (q : Option ℕ). ValOf q (R x) x now) (sym (open-closed d x s e)) (val-mine x e)
      | false ↦ λ e. subst (λ (q : Option ℕ). ValOf q (R x) x now) (sym (still-closed d x s e)) (val-theirs x e (recovery x s) (a.val x))
    ]) refl;
    read = a.read;
    given = each-append (GrantOK R) (at_hand d bs s) s.mail (each-append (GrantOK R) asks (kept_of d s) (asks-plain hs (λ x. master x (closed d s))) (calls-plain (kept_of d s) kept1)) a.given;
    waits = λ o x. (elim (is_name_of d s x) as (λ b. is_name_of d s x ≡ b → MayWait (hold_at o x now.claims).belief (hold_at o x now.claims).wait) [
      | true ↦ λ e. subst (λ (h : Hold). MayWait h.belief h.wait) (sym (hold-none o x now.claims (any-filtered (λ y. not (is_name_of d s y)) o x s.claims (ap not e)))) tt
      | false ↦ λ e. subst (λ (h : Hold). MayWait h.belief h.wait) (sym (claim-same x e o)) (a.waits o x)
    ]) refl;
  }

-- ---- the claimed asks are taken

-- the value block of a name becomes another, which is not valid or is the same
reset-val : (R : LockName → List (List ℕ)) (s : State) (x : LockName) (ms : List Message) (t : List Resource) (q : List Waiter) (vs : List Version) (b : Seen) → 1 ≤ s.nodes → length s.tables ≡ s.nodes → recovery x s ≡ None
    → LeavesOthers x (table_at (home s.nodes x) s.tables) t → is_used (resource_at x t) ≡ true → (b.valid ≡ true → block_at1 x t ≡ Some b.value)
    → (y : LockName) → ValOf (recovery y s) (R y) y (called_so s x ms t q vs) → ValOf (recovery y s) (R y) y (called_so s x ms (recovered x b.value b.valid t) q vs)
reset-val R s x ms t q vs b l len n others u same y v =
    let t2 : List Resource = recovered x b.value b.valid t in
    let z : State = called_so s x ms t q vs in
    let z2 : State = called_so s x ms t2 q vs in
    (elim (is_same x y) as (λ c. is_same x y ≡ c → ValOf (recovery y s) (R y) y z2) [
      | true ↦ λ e.
          let v1 : ValOf (recovery x s) (R x) x z = subst (λ (k : LockName). ValOf (recovery k s) (R k) k z) (sym (is_same-same x y e)) v in
          subst (λ (k : LockName). ValOf (recovery k s) (R k) k z2) (is_same-same x y e) (subst (λ (r : Option ℕ). ValOf r (R x) x z2) (sym n) (here (subst (λ (r : Option ℕ). ValOf r (R x) x z) n v1)))
      | false ↦ λ e. beside e (recovery y s) v
    ]) refl
  where
    here : ValOf None (R x) x (called_so s x ms t q vs) → ValOf None (R x) x (called_so s x ms (recovered x b.value b.valid t) q vs)
    here v =
        let t2 : List Resource = recovered x b.value b.valid t in
        let z : State = called_so s x ms t q vs in
        let z2 : State = called_so s x ms t2 q vs in
        let told : told_at x z ≡ resource_at x t = told-here s.nodes x s.tables t l len in
        let told2 : told_at x z2 ≡ resource_at x t2 = told-here s.nodes x s.tables t2 l len in
        let at = recovered-at x b.value b.valid t u in
        let block : block_in x z ≡ block_at1 x t = ap (λ (r : Resource). marked r.valid r.value) told in
        let block2 : block_in x z2 ≡ marked b.valid b.value = ap (λ (r : Resource). marked r.valid r.value) (told2 ∙ at) in
        let locks : (o : Owner) → lock_in None x z2 o ≡ lock_in None x z o = λ o. ap (λ (r : Resource). option_and_then held (standing_of o r.askers)) (told2 ∙ at) ∙ ap (λ (r : Resource). option_and_then held (standing_of o r.askers)) (sym told) in
        (elim b.valid as (λ c. b.valid ≡ c → ValOf None (R x) x z2) [
          | true ↦ λ e. val-same (R x) (lock_in None x z) (lock_in None x z2) (calls_in None x z) (calls_in None x z2) (block_in x z) (block_in x z2) locks (λ o. refl) (block2 ∙ ap (λ (c : Bool). marked c b.value) e ∙ sym (block ∙ same e)) v
          | false ↦ λ e. val-same (R x) (lock_in None x z) (lock_in None x z2) (calls_in None x z) (calls_in None x z2) None (block_in x z2) locks (λ o. refl) (block2 ∙ ap (λ (c : Bool). marked c b.value) e) (unmarked-val (R x) (lock_in None x z) (calls_in None x z) (block_in x z) v)
        ]) refl

    beside : is_same x y ≡ false → (r : Option ℕ) → ValOf r (R y) y (called_so s x ms t q vs) → ValOf r (R y) y (called_so s x ms (recovered x b.value b.valid t) q vs)
    beside e None v =
        let t2 : List Resource = recovered x b.value b.valid t in
        let z : State = called_so s x ms t q vs in
        let z2 : State = called_so s x ms t2 q vs in
        let d : y ≢ x = λ k. true-false (sym (rw k (is_same-refl x)) ∙ e) in
        let told : told_at y z2 ≡ told_at y z = told-other s.nodes x y s.tables t2 l len d (λ k f. recovered-leaves x b.value b.valid t k f ∙ others k f) ∙ sym (told-other s.nodes x y s.tables t l len d others) in
        val-same (R y) (lock_in None y z) (lock_in None y z2) (calls_in None y z) (calls_in None y z2) (block_in y z) (block_in y z2) (λ o. ap (λ (r : Resource). option_and_then held (standing_of o r.askers)) told) (λ o. refl) (ap (λ (r : Resource). marked r.valid r.value) told) v
    beside e (Some k) v = v

-- the names of a recovery have the blocks that their claims keep
abbrev Blocks1 : (LockName → Bool) → (LockName → Seen) → State → Type 0
Blocks1 mine bs z = (y : LockName) → mine y ≡ true → (bs y).valid ≡ true → block_in y z ≡ Some (bs y).value

write-or : (b : Bool) (v : List ℕ) (cur : Option (List ℕ)) → cur ≡ Some v → wrote_then b v cur ≡ Some v
write-or true v cur e = refl
write-or false v cur e = e

record Asked1 (R : LockName → List (List ℕ)) (mine : LockName → Bool) (bs : LockName → Seen) (ms : List Message) (hs : List Hold) (z : State) : Type 0 where
  open_names : list_all (λ k. not (is_some (recovery k.name z))) hs ≡ true
  sound : IsSound (front (asks_of bs (λ x. master x z) hs ++ ms) z)
  values : Values R (front (asks_of bs (λ x. master x z) hs ++ ms) z)
  blocks : Blocks1 mine bs z

-- the block behind an ask is the one before, or what the ask brings
ask-any : (m : Message) (w : Mode) (old : Option Mode) (t : List Resource) (v : List ℕ) → mode_of m.owner (resource_at m.name t).askers ≡ old → CanAsk m w t → m.value ≡ v → block_at1 m.name t ≡ Some v → block_at1 m.name (ask_made m old w t) ≡ Some v
ask-any m w old t v oe c mv e =
    let is : old ≡ c.lock = sym oe ∙ can-mode c.lock (standing_of m.owner (resource_at m.name t).askers) c.stands in
    let b : Bool = writes c.lock (Ask w) in
    ap (λ (z : Option Mode). block_at1 m.name (ask_made m z w t)) is ∙ ask-block m w c.lock t b c.stands c.along refl (λ k q. conv-writes k w (sym (ap (λ (z : Option Mode). crosses z w) q) ∙ c.along) ∙ ap (λ (z : Option Mode). writes z (Ask w)) (sym q))
    ∙ write-or b m.value (block_at1 m.name t) (e ∙ ap (λ (u : List ℕ). Some u) (sym mv)) ∙ ap (λ (u : List ℕ). Some u) mv

asked-one : (R : LockName → List (List ℕ)) (mine : LockName → Bool) (bs : LockName → Seen) (ms : List Message) (w : Option Mode) (h : Hold) (hs : List Hold) (z : State) → mine h.name ≡ true → recovery h.name z ≡ None → list_all (λ k. not (is_some (recovery k.name z))) hs ≡ true
    → IsSound (front ((asks_one w (bs h.name) (master h.name z) h ++ asks_of bs (λ x. master x z) hs) ++ ms) z)
    → Values R (front ((asks_one w (bs h.name) (master h.name z) h ++ asks_of bs (λ x. master x z) hs) ++ ms) z)
    → Blocks1 mine bs z → Asked1 R mine bs ms hs (asked_again h w (bs h.name) z)
asked-one R mine bs ms None h hs z mi n t i v bl = record { open_names = t; sound = i; values = v; blocks = bl }
asked-one R mine bs ms (Some w) h hs z mi n t i v bl =
    let b : Seen = bs h.name in
    let m : Message = again h w b z in
    let rest : List Message = asks_of bs (λ x. master x z) hs ++ ms in
    let s : State = front (m ∷ rest) z in
    let old : Option Mode = mode_of h.owner (told_at h.name z).askers in
    let t1 : List Resource = table_at (home z.nodes h.name) z.tables in
    let q : List Waiter = put_last m old w z.queue in
    let made2 : List Resource = ask_made m old w t1 in
    let f : find (is_between m.from m.to) s.mail ≡ Some m = find-front m (rest ++ z.mail) in
    let a = call-first s m.from m.to m i f refl n in
    let c0 = ask-call s m.from m.to m w i a refl in
    let c1 : Call s m (rest ++ z.mail) made2 q = subst (λ (ns : List Message). Call s m ns made2 q) (past-front m (rest ++ z.mail)) c0 in
    let st = ask-stands s m.from m.to m w i a refl in
    let c2 = call-again s m (rest ++ z.mail) made2 q m.value b.valid st.0 c1 st.1 in
    let after : State = asked_again h (Some w) b z in
    let pre1 : State = called_so s m.name (rest ++ z.mail) made2 q after.versions in
    let pre2 : State = called_so s m.name (rest ++ z.mail) (made_again b.valid m old w t1) q after.versions in
    let so = served-sound pre2 (call-sound s m (rest ++ z.mail) (made_again b.valid m old w t1) q after.versions i c2) in
    let m0 = ask-made1 s m.from m.to m w old (letters_of false m.owner m.name (past_first (is_between m.from m.to) s.mail)) (letters_of true m.owner m.name (past_first (is_between m.from m.to) s.mail)) (waiters_of m.owner m.name s.queue)
    (hold_at m.owner m.name s.holds).belief (hold_at m.owner m.name s.holds).wait i refl (first-calls s m.from m.to m i a refl) refl refl a.head in
    let made1 : Made1 s m (rest ++ z.mail) made2 = subst (λ (ns : List Message). Made1 s m ns made2) (past-front m (rest ++ z.mail)) m0 in
    let used : is_used (resource_at m.name made2) ≡ true = used_made m old w t1 refl in
    let calls : (p : Owner) (y : LockName) → is_about p y m ≡ false → calls_of p y (rest ++ z.mail) ≡ calls_of p y s.mail = λ p y e. rw (not-about false p y m e) refl in
    let v1 : Values R pre1 = call-values R s m (rest ++ z.mail) made2 q after.versions i c1 v calls made1 (λ u. absurd (true-false (sym used ∙ u))) v.given.1 in
    let can = head-ask m w t1 _ _ _ _ _ refl a.head in
    let same : b.valid ≡ true → block_at1 m.name made2 ≡ Some b.value = λ e. ask-any m w old t1 b.value refl can refl (bl h.name mi e) in
    let v2 : Values R pre2 = record { val = λ y. reset-val R s m.name (rest ++ z.mail) made2 q after.versions b i.some_node i.each_has_one n c1.others used same y (v1.val y); read = v1.read; given = v1.given; waits = v1.waits } in
    let v3 : Values R (served pre2) = served-values R pre2 so v2 in
    let now : List Message = grants_of pre2 q in
    record {
      open_names = t;
      sound = subst (λ (ns : List Message). IsSound (record after { mail = ns })) (append_assoc rest z.mail now) so;
      values = subst (λ (ns : List Message). Values R (record after { mail = ns })) (append_assoc rest z.mail now) v3;
      blocks = λ y my e. blocks-after m old w q after.versions rest i.some_node i.each_has_one used c1.others y my e;
    }
  where
    blocks-after : (m : Message) (old : Option Mode) (w : Mode) (q : List Waiter) (vs : List Version) (rest : List Message) → 1 ≤ z.nodes → length z.tables ≡ z.nodes
        → is_used (resource_at h.name (ask_made (again h w (bs h.name) z) (mode_of h.owner (told_at h.name z).askers) w (table_at (home z.nodes h.name) z.tables))) ≡ true
        → LeavesOthers h.name (table_at (home z.nodes h.name) z.tables) (ask_made (again h w (bs h.name) z) (mode_of h.owner (told_at h.name z).askers) w (table_at (home z.nodes h.name) z.tables))
        → (y : LockName) → mine y ≡ true → (bs y).valid ≡ true → block_in y (asked_again h (Some w) (bs h.name) z) ≡ Some (bs y).value
    blocks-after m old w q vs rest l len used others y my e =
        let b : Seen = bs h.name in
        let x : LockName = h.name in
        let t : List Resource = ask_made (again h w b z) (mode_of h.owner (told_at h.name z).askers) w (table_at (home z.nodes h.name) z.tables) in
        let t2 : List Resource = recovered x b.value b.valid t in
        let after : State = asked_again h (Some w) b z in
        (elim (is_same x y) as (λ c. is_same x y ≡ c → block_in y after ≡ Some (bs y).value) [
          | true ↦ λ k.
              let named : x ≡ y = is_same-same x y k in
              let valid : b.valid ≡ true = subst (λ (n : LockName). (bs n).valid ≡ true) (sym named) e in
              let told : told_at x after ≡ resource_at x t2 = told-here z.nodes x z.tables t2 l len in
              let at = recovered-at x b.value b.valid t used in
              subst (λ (n : LockName). block_in n after ≡ Some (bs n).value) named (ap (λ (r : Resource). marked r.valid r.value) (told ∙ at) ∙ ap (λ (c : Bool). marked c b.value) valid)
          | false ↦ λ k.
              let d : y ≢ x = λ n. true-false (sym (rw n (is_same-refl x)) ∙ k) in
              let told : told_at y after ≡ told_at y z = told-other z.nodes x y z.tables t2 l len d (λ n f. recovered-leaves x b.value b.valid t n f ∙ others n f) in
              ap (λ (r : Resource). marked r.valid r.value) told ∙ bl y my e
        ]) refl

all-asked-values : (R : LockName → List (List ℕ)) (mine : LockName → Bool) (bs : LockName → Seen) (ms : List Message) (hs : List Hold) (z : State) → list_all (λ (k : Hold). mine k.name) hs ≡ true → Asked1 R mine bs ms hs z → Values R (front ms (all_asked_again bs hs z))
all-asked-values R mine bs ms [] z m a = a.values
all-asked-values R mine bs ms (h ∷ hs) z m a =
    let n : recovery h.name z ≡ None = none-some (recovery h.name z) (not-true (is_some (recovery h.name z)) (list_all-head (λ (k : Hold). not (is_some (recovery k.name z))) h hs a.open_names)) in
    all-asked-values R mine bs ms hs (asked_again h h.wait (bs h.name) z) (list_all-tail (λ (k : Hold). mine k.name) h hs m)
    (asked-one R mine bs ms h.wait h hs z (list_all-head (λ (k : Hold). mine k.name) h hs m) n (list_all-tail (λ (k : Hold). not (is_some (recovery k.name z))) h hs a.open_names) a.sound a.values a.blocks)

-- ---- what was kept back is taken

taken-front : (l : Letter) (m : Message) (ms : List Message) (old : Option Mode) (t : List Resource) (z : State) → taken_from m l old t (record z { mail = ms ++ z.mail }) ≡ front ms (taken_from m l old t z)
taken-front (Ask w) m ms old t z =
    let q : List Waiter = put_last m old w z.queue in
    let now : List Message = grants_of (with_table m.name (ask_made m old w t) (record z { queue = q; versions = versions_after m old t z.holds z.versions })) q in
    ap (λ (ns : List Message). record (taken_from m (Ask w) old t z) { mail = ns }) (append_assoc ms z.mail now)
taken-front Drop m ms old t z =
    let now : List Message = grants_of (with_table m.name (drop_made m old t) (record z { versions = versions_after m old t z.holds z.versions })) z.queue in
    ap (λ (ns : List Message). record (taken_from m Drop old t z) { mail = ns }) (append_assoc ms z.mail now)
taken-front (Grant w v) m ms old t z = refl
taken-front (Claim d) m ms old t z = refl

pub taken-holds : (l : Letter) (m : Message) (old : Option Mode) (t : List Resource) (z : State) → (taken_from m l old t z).holds ≡ z.holds
taken-holds (Ask w) m old t z = refl
taken-holds Drop m old t z = refl
taken-holds (Grant w v) m old t z = refl
taken-holds (Claim d) m old t z = refl

pub taken-recovery : (l : Letter) (m : Message) (old : Option Mode) (t : List Resource) (z : State) (x : LockName) → recovery x (taken_from m l old t z) ≡ recovery x z
taken-recovery (Ask w) m old t z x = refl
taken-recovery Drop m old t z x = refl
taken-recovery (Grant w v) m old t z x = refl
taken-recovery (Claim d) m old t z x = refl

-- in these names zeros may be read once nobody believes a lock
abbrev Zeros1 : (LockName → List (List ℕ)) → (LockName → Bool) → State → Type 0
Zeros1 R mine z = (x : LockName) → mine x ≡ true → has_lock x z.holds ≡ false → Contains (R x) zeros

record Taken1 (R : LockName → List (List ℕ)) (mine : LockName → Bool) (ms : List Message) (z : State) : Type 0 where
  open_calls : list_all (is_open_call z) ms ≡ true
  sound : IsSound (front ms z)
  values : Values R (front ms z)
  zero1 : Zeros1 R mine z

one-taken1 : (R : LockName → List (List ℕ)) (mine : LockName → Bool) (m : Message) (ms : List Message) (z : State) → mine m.name ≡ true → Taken1 R mine (m ∷ ms) z → Taken1 R mine ms (taken m z)
one-taken1 R mine m ms z my a =
    let first = list_all-head (is_open_call z) m ms a.open_calls in
    let call : is_call m.letter ≡ true = and-left (is_call m.letter) (not (is_some (recovery m.name z))) first in
    let n : recovery m.name z ≡ None = none-some (recovery m.name z) (not-true (is_some (recovery m.name z)) (and-right (is_call m.letter) (not (is_some (recovery m.name z))) first)) in
    let s : State = front (m ∷ ms) z in
    let f : find (is_between m.from m.to) s.mail ≡ Some m = find-front m (ms ++ z.mail) in
    let old : Option Mode = mode_of m.owner (told_at m.name z).askers in
    let t : List Resource = table_at (home z.nodes m.name) z.tables in
    let y0 : State = taken m (record s { mail = past_first (is_between m.from m.to) s.mail }) in
    let so0 : IsSound y0 = taken-sound s m.from m.to m a.sound f call n in
    let zero0 : is_used (told_at m.name y0) ≡ false → Contains (R m.name) zeros =
    λ u. a.zero1 m.name my (ap (has_lock m.name) (sym (taken-holds m.letter m old t (record s { mail = past_first (is_between m.from m.to) s.mail }))) ∙ lockless m.name y0.holds so0.once (unused-nobody m.name y0 so0 (taken-recovery m.letter m old t (record s { mail = past_first (is_between m.from m.to) s.mail }) m.name ∙ n) u)) in
    let v0 : Values R y0 = taken-values R s m.from m.to m a.sound f call n a.values zero0 in
    let is : y0 ≡ front ms (taken m z) = ap (λ (ns : List Message). taken m (record s { mail = ns })) (past-front m (ms ++ z.mail)) ∙ taken-front m.letter m ms old t z in
    record {
      open_calls = list_all-weaker (is_open_call z) (is_open_call (taken m z)) ms (λ k e. subst (λ (r : Option ℕ). (is_call k.letter && not (is_some r)) ≡ true) (sym (taken-recovery m.letter m old t z k.name)) e) (list_all-tail (is_open_call z) m ms a.open_calls);
      sound = subst (λ (y : State). IsSound y) is so0;
      values = subst (λ (y : State). Values R y) is v0;
      zero1 = λ x mx e. a.zero1 x mx (ap (has_lock x) (sym (taken-holds m.letter m old t z)) ∙ e);
    }

all-taken-values : (R : LockName → List (List ℕ)) (mine : LockName → Bool) (ms : List Message) (z : State) → list_all (λ (m : Message). mine m.name) ms ≡ true → Taken1 R mine ms z → Values R (taken_all ms z)
all-taken-values R mine [] z m a = a.values
all-taken-values R mine (k ∷ ms) z m a = all-taken-values R mine ms (taken k z) (list_all-tail (λ (j : Message). mine j.name) k ms m) (one-taken1 R mine k ms z (list_all-head (λ (j : Message). mine j.name) k ms m) a)

-- ---- a recovery ends

asked-holds : (w : Option Mode) (h : Hold) (b : Seen) (z : State) → (asked_again h w b z).holds ≡ z.holds
asked-holds None h b z = refl
asked-holds (Some w) h b z = refl

all-asked-holds : (hs : List Hold) (bs : LockName → Seen) (z : State) → (all_asked_again bs hs z).holds ≡ z.holds
all-asked-holds [] bs z = refl
all-asked-holds (h ∷ hs) bs z = all-asked-holds hs bs (asked_again h h.wait (bs h.name) z) ∙ asked-holds h.wait h (bs h.name) z

all-taken-holds : (ms : List Message) (z : State) → (taken_all ms z).holds ≡ z.holds
all-taken-holds [] z = refl
all-taken-holds (m ∷ ms) z = all-taken-holds ms (taken m z) ∙ taken-holds m.letter m (mode_of m.owner (told_at m.name z).askers) (table_at (home z.nodes m.name) z.tables) z

reclaimed-holds : (be : Option Mode) (h : Hold) (b : Seen) (z : State) → (reclaimed_lock h be b z).holds ≡ z.holds
reclaimed-holds None h b z = refl
reclaimed-holds (Some m) h b z = refl

all-reclaimed-holds : (hs : List Hold) (bs : LockName → Seen) (z : State) → (reclaimed bs hs z).holds ≡ z.holds
all-reclaimed-holds [] bs z = refl
all-reclaimed-holds (h ∷ hs) bs z = all-reclaimed-holds hs bs (reclaimed_lock h h.belief (bs h.name) z) ∙ reclaimed-holds h.belief h (bs h.name) z

ended-holds : (d : ℕ) (s : State) → (ended d s).holds ≡ s.holds
ended-holds d s =
    let bs : LockName → Seen = block_for s.rule (claims_of d s) (filter (λ b. is_with true d s b.name) s.claimed_blocks) in
    let z : State = reclaimed bs (claims_of d s) (closed d s) in
    all-taken-holds (kept_of d s) (all_asked_again bs (claims_of d s) z) ∙ all-asked-holds (claims_of d s) bs z ∙ all-reclaimed-holds (claims_of d s) bs (closed d s)

ended-if-holds : (d : ℕ) (s : State) → (ended_if d s).holds ≡ s.holds
ended-if-holds d s = (elim (is_open d s.awaited) as (λ b. (if b then s else ended d s).holds ≡ s.holds) [ true ↦ refl | false ↦ ended-holds d s ])

pub all-ended-holds : (ds : List ℕ) (s : State) → (all_ended ds s).holds ≡ s.holds
all-ended-holds [] s = refl
all-ended-holds (d ∷ ds) s = all-ended-holds ds (ended_if d s) ∙ ended-if-holds d s

-- a claim that keeps its mark has a lock
kept-lock : (x : LockName) (hs : List Hold) → (held_block x hs).valid ≡ true → has_lock x hs ≡ true
kept-lock x hs e =
    (elim (find (λ (h : Hold). is_same h.name x && is_strong h.belief) hs) as (λ f. find (λ (h : Hold). is_same h.name x && is_strong h.belief) hs ≡ f → (kept_by f (latest x hs)).valid ≡ true → has_lock x hs ≡ true) [
      | None ↦ λ f k. absurd (true-false (sym k ∙ unmarked-off (latest x hs)))
      | Some h ↦ λ f k.
          let passes = find-passes (λ (j : Hold). is_same j.name x && is_strong j.belief) hs h f in
          let some : (is_same h.name x && is_some h.belief) ≡ true = and-both (is_same h.name x) (is_some h.belief) (and-left (is_same h.name x) (is_strong h.belief) passes) (strong-some h.belief (and-right (is_same h.name x) (is_strong h.belief) passes)) in
          (elim (has_lock x hs) as (λ b. has_lock x hs ≡ b → b ≡ true) [
            | true ↦ λ q. refl
            | false ↦ λ q. sym (any-found (λ (j : Hold). is_same j.name x && is_some j.belief) (λ (j : Hold). is_same j.name x && is_strong j.belief) hs h f q) ∙ some
          ]) refl
    ]) refl e
  where
    strong-some : (o : Option Mode) → is_strong o ≡ true → is_some o ≡ true
    strong-some None e = cc
    strong-some (Some m) e = refl

abbrev pub ZerosIn : (LockName → List (List ℕ)) → State → Type 0
ZerosIn R s = (x : LockName) → is_some (recovery x s) ≡ true → has_lock x s.holds ≡ false → Contains (R x) zeros

some-recovery : (d : ℕ) (o : Option ℕ) → is_of_recovery d o ≡ true → is_some o ≡ true
some-recovery d None e = cc
some-recovery d (Some k) e = refl

pub block-rule : (rule : BlockRule) (hs : List Hold) (bs : List Block) (x : LockName) → rule ≡ OfHolders → block_for rule hs bs x ≡ held_block x hs
block-rule rule hs bs x e = rw e refl

record Ended1 (R : LockName → List (List ℕ)) (d : ℕ) (s : State) : Type 0 where
  values : Values R (ended d s)
  holds : (ended d s).holds ≡ s.holds

ended-values : (R : LockName → List (List ℕ)) (d : ℕ) (s : State) → IsSound s → s.rule ≡ OfHolders → Values R s → ZerosIn R s → Ended1 R d s
ended-values R d s i ru a zero1 =
    let c : State = closed d s in
    let bs : LockName → Seen = block_for s.rule (claims_of d s) (filter (λ b. is_with true d s b.name) s.claimed_blocks) in
    let hs : List Hold = claims_of d s in
    let ks : List Message = kept_of d s in
    let mine : LockName → Bool = is_name_of d s in
    let r = reclaim-all d bs s hs [] s.tables s.versions i refl (list_all-passing (λ h. is_name_of d s h.name) s.claims) (restore-start d bs s i) in
    let z : State = with_tables c r.tables r.versions in
    let y : State = all_asked_again bs hs z in
    let held_so : (x : LockName) → bs x ≡ held_block x hs = λ x. block-rule s.rule hs (filter (λ b. is_with true d s b.name) s.claimed_blocks) x ru in
    let so : IsSound (restored d bs s r.tables r.versions) = restored-sound d bs s r.tables r.versions i r.all in
    let kept1 = open-kept d s y i.kept_back (λ x e. recovery-asked hs bs z x ∙ open-closed d x s e) in
    let v0 : Values R (restored d bs s r.tables r.versions) = restored-values R d bs s r.tables r.versions i r.all a held_so zero1 (list_all-filter (is_kept s) (λ m. is_with true d s m.name) s.kept i.kept_back) in
    let opened = open-claims d s z (λ x e. open-closed d x s e) in
    let blocks : Blocks1 mine bs z = λ x mx e.
    let b = r.all.blocks x mx (kept-lock x hs (ap (λ (k : Seen). k.valid) (sym (held_so x)) ∙ e)) in
    (let q : block_in x z ≡ marked (bs x).valid (bs x).value = rw (b.mark_is, b.bytes_are) refl in q) ∙ ap (λ (k : Bool). marked k (bs x).value) e in
    let v1 : Values R (front ks y) = all-asked-values R mine bs ks hs z (list_all-passing (λ h. is_name_of d s h.name) s.claims) (record { open_names = opened; sound = so; values = v0; blocks = blocks }) in
    let asked : IsSound (front ks y) = all-asked hs bs ks z opened so in
    let zero2 : Zeros1 R mine y = λ x mx e. zero1 x (some-recovery d (recovery x s) mx) (ap (has_lock x) (sym (all-asked-holds hs bs z)) ∙ e) in
    let v2 : Values R (taken_all ks y) = all-taken-values R mine ks y (list_all-passing (λ (m : Message). is_name_of d s m.name) s.kept) (record { open_calls = kept1; sound = asked; values = v1; zero1 = zero2 }) in
    let hold2 : (taken_all ks y).holds ≡ s.holds = all-taken-holds ks y ∙ all-asked-holds hs bs z in
    record {
      values = subst (λ (x : State). Values R (taken_all ks (all_asked_again bs hs x))) (sym r.is) v2;
      holds = subst (λ (x : State). (taken_all ks (all_asked_again bs hs x)).holds ≡ s.holds) (sym r.is) hold2;
    }

pub record EndedAll (R : LockName → List (List ℕ)) (s t : State) : Type 0 where
  pub sound : IsSound t
  pub rule : t.rule ≡ OfHolders
  pub values : Values R t
  pub zeros_in : ZerosIn R t
  pub holds : t.holds ≡ s.holds

ended-if : (R : LockName → List (List ℕ)) (d : ℕ) (s : State) → IsSound s → s.rule ≡ OfHolders → Values R s → ZerosIn R s → EndedAll R s (ended_if d s)
ended-if R d s i ru a zs =
    (elim (is_open d s.awaited) as (λ b. EndedAll R s (if b then s else ended d s)) [
      | true ↦ record { sound = i; rule = ru; values = a; zeros_in = zs; holds = refl }
      | false ↦
          let e = ended-values R d s i ru a zs in
          record {
            sound = ended-sound d s i;
            rule = (ended-stays d s).rule ∙ ru;
            values = e.values;
            zeros_in = λ x f g. zs x (was x (recovery-is x (closed d s) (ended d s) (ended-stays d s)) f) (ap (has_lock x) (sym e.holds) ∙ g);
            holds = e.holds;
          }
    ])
  where
    was : (x : LockName) → recovery x (ended d s) ≡ recovery x (closed d s) → is_some (recovery x (ended d s)) ≡ true → is_some (recovery x s) ≡ true
    was x e f =
        let g : is_some (recovery x (closed d s)) ≡ true = ap is_some (sym e) ∙ f in
        (elim (is_name_of d s x) as (λ b. is_name_of d s x ≡ b → is_some (recovery x s) ≡ true) [
          | true ↦ λ k. absurd (true-false (sym g ∙ ap is_some (open-closed d x s k)))
          | false ↦ λ k. ap is_some (sym (still-closed d x s k)) ∙ g
        ]) refl

pub all-ended-values : (R : LockName → List (List ℕ)) (ds : List ℕ) (s : State) → IsSound s → s.rule ≡ OfHolders → Values R s → ZerosIn R s → EndedAll R s (all_ended ds s)
all-ended-values R [] s i ru a zs = record { sound = i; rule = ru; values = a; zeros_in = zs; holds = refl }
all-ended-values R (d ∷ ds) s i ru a zs =
    let e = ended-if R d s i ru a zs in
    let f = all-ended-values R ds (ended_if d s) e.sound e.rule e.values e.zeros_in in
    record { sound = f.sound; rule = f.rule; values = f.values; zeros_in = f.zeros_in; holds = f.holds ∙ e.holds }
