-- A block that a turn uses from a cache is the drive's: its node holds the lock under which the block is cached in PR or more.
use Rattle.std.proofs.Common.{◌≡◌, ◌++◌, not, ℕ, Bool, true, false, cond, Option, Some, None, is_some, slice_get, refl, sym, ap, subst, ◌∙◌, inl, inr, arith}
use Rattle.lock_db.specs.declared.name.LockName.{LockName}
use Rattle.lock_db.specs.declared.name.LockName.TheVariants.{X, V}
use Rattle.plain_cat.specs.declared.mode.Mode.{Mode}
use Rattle.plain_cat.specs.declared.mode.Mode.TheVariants.{NL, CR, PR, PW, EX}
use Rattle.plain_cat.specs.declared.command.Cmd.{Cmd}
use Rattle.plain_cat.specs.declared.reply.Reply.{Reply}
use Rattle.node_locks.specs.Held.{Row, waits_at}
use Rattle.base_words.specs.Lists.{Has}
use Rattle.base_words.proofs.Listing.{has_parted}
use Rattle.op_law.specs.declared.need.Need.{Need}
use Rattle.op_law.specs.declared.need.Need.TheVariants as need
use Rattle.op_law.specs.declared.need.Ask.{Ask}
use Rattle.op_law.specs.declared.need.Plan.{Plan}
use Rattle.op_law.specs.declared.need.PlanWrite.{PlanWrite}
use Rattle.op_law.specs.Needs.{need_of, IsNext}
use Rattle.op_law.specs.Laws.{held_in, Lawful}
use Rattle.node_cache.specs.Cached.{Cached}
use Rattle.core_space.specs.declared.run.Phase.{Phase}
use Rattle.core_space.specs.declared.run.Phase.TheVariants as phase
use Rattle.core_space.specs.declared.run.SpaceRun.{SpaceRun}
use Rattle.core_space.specs.declared.run.SpaceNeed.{SpaceNeed}
use Rattle.core_space.specs.declared.event.SpaceEvent.{SpaceEvent}
use Rattle.core_space.specs.declared.event.SpaceEvent.TheVariants as space
use Rattle.extent_cache.specs.Takings.{holds_enough}
use Rattle.core_space.specs.Rule.{is_shared, is_exclusive, is_writer, written_first, after_looks, next_fill, next_give, by_search, event_in, space_event, back_event}
use Rattle.core_space.specs.Answering.{answer, blocks_alone}
use Rattle.core_state.specs.Worlds.{NodeState, Plain, node_at, with_node, current}
use Rattle.core_state.specs.Searches.{begun_run, Served, Given, Shared, Fills, Grabs, Filled, Drains, Alone, Looking, Taking, Taken, Refused, Rules, Spaces, Off, Back, Busy}
use Rattle.core_state.specs.Stores.{AreKept}
use Rattle.core_state.specs.Asks.{writes_by}
use Rattle.core_state.specs.Caches.{current_entry}
use Rattle.core_state.specs.Goods.{held_by, Good}
use Rattle.core_state.specs.Event.{Event}
use Rattle.core_state.specs.Event as event
use Rattle.core_state.specs.Events.{mode_in, space_state, is_out, by_put, by_rule, phase_begun, serves, space_need, by_need, by_write, by_end, by_plan, by_command, by_back, by_turn, gives_back, stands, has_current, or_use, event_of, is_held_up, prepared, readied_at, cached_block, block_used}
use Rattle.core_state.specs.Uses.{used_in, IsDrives, UsesTheDrives}
use Rattle.core_state.proofs.Naming.{mode_has}
use Rattle.core_state.proofs.Holding.{is_in_held}
use Rattle.core_state.proofs.Running.{claims_held}
use Rattle.core_state.proofs.Turning.{may_need, reads_more}
use Rattle.core_state.proofs.CachedUses.{current_is_drives}
use Rattle.core_state.proofs.Turns.{prepares_keep, not_standing}
use Rattle.core_state.proofs.CachedHolders.{pw_is}

-- ---- which looks are under V

-- V is asked for first in these rules
asks_first : (a b : Bool) (mode : Mode) (e : SpaceEvent) (lbn : ℕ) → cond (not a) (space.Ask X mode) (cond (not b) (space.Ask V PW) e) ≡ space.Look lbn → b ≡ true
asks_first false b mode e lbn f = absurd (let z : space.Ask X mode ≡ space.Look lbn = f in cc)
asks_first true false mode e lbn f = absurd (let z : space.Ask V PW ≡ space.Look lbn = f in cc)
asks_first true true mode e lbn f = refl

back_first : (b : Bool) (e : SpaceEvent) (lbn : ℕ) → cond (not b) (space.Ask V PW) e ≡ space.Look lbn → b ≡ true
back_first false e lbn f = absurd (let z : space.Ask V PW ≡ space.Look lbn = f in cc)
back_first true e lbn f = refl

off_first : (t a b : Bool) (e : SpaceEvent) (lbn : ℕ) → cond t space.Enough (cond (not a) (space.Ask X CR) (cond (not b) (space.Ask V PW) e)) ≡ space.Look lbn → b ≡ true
off_first true a b e lbn f = absurd (let z : space.Enough ≡ space.Look lbn = f in cc)
off_first false a b e lbn f = asks_first a b CR e lbn f

-- V is kept in NL alone, so it is claimed where it is held in PW
claimed_writer : (p : Phase) (kept claims : Row) → AreKept p kept → is_writer (mode_in V (kept ++ claims)) ≡ true → Has claims (V, PW)
claimed_writer p kept claims keeps e = elim (has_parted kept claims (V, PW) (mode_has (kept ++ claims) V PW (pw_is (mode_in V (kept ++ claims)) e))) [
  | inl h ↦ absurd (elim (keeps (V, PW) h) [
    | inl low ↦ absurd (let f : PW ≡ NL = low.1 in cc)
    | inr x ↦ absurd (let f : V ≡ X = x.0 in cc)
  ])
  | inr h ↦ h
]

-- while the stock goes back V is claimed
drain_claims : (cmd : Option Cmd) (s : NodeState) → s.run.phase ≡ phase.Drain → Spaces cmd s.kept s.claims s.run s.stock s.seen → Has s.claims (V, PW)
drain_claims cmd s e (Off h) = absurd (let f : phase.Off ≡ phase.Drain = sym (ap (λ (y : SpaceRun). y.phase) h.run) ∙ e in cc)
drain_claims cmd s e (Back h) = absurd (let f : phase.Back ≡ phase.Drain = sym h.back ∙ e in cc)
drain_claims cmd s e (Busy x c r) = by_rule_of r where
  fill_not : s.run.phase ≡ phase.Fill → Has s.claims (V, PW)
  fill_not p = absurd (let f : phase.Fill ≡ phase.Drain = sym p ∙ e in cc)

  last_not : s.run.phase ≡ phase.Last → Has s.claims (V, PW)
  last_not p = absurd (let f : phase.Last ≡ phase.Drain = sym p ∙ e in cc)

  of_run : (p : Phase) → s.run ≡ begun_run p → s.run.phase ≡ p
  of_run p f = ap (λ (y : SpaceRun). y.phase) f

  by_rule_of : Rules x s.kept s.claims s.run s.stock s.seen → Has s.claims (V, PW)
  by_rule_of (Served h) = fill_not (of_run phase.Fill h.run)
  by_rule_of (Given h) = fill_not (of_run phase.Fill h.run)
  by_rule_of (Shared h) = fill_not (of_run phase.Fill h.run)
  by_rule_of (Fills h) = fill_not h.filling.fill
  by_rule_of (Grabs h) = fill_not h.filling.fill
  by_rule_of (Filled h) = fill_not h.fill
  by_rule_of (Drains h) = subst (λ (ls : Row). Has ls (V, PW)) (sym h.claims) (inl refl)
  by_rule_of (Alone h) = last_not (of_run phase.Last h.run)
  by_rule_of (Looking h) = last_not h.claimed_so.last
  by_rule_of (Taking h) = last_not h.found.claimed_so.last
  by_rule_of (Taken h) = last_not h.found.claimed_so.last
  by_rule_of (Refused h) = last_not h.claimed_so.last

-- ---- the event of a node that does not wait

module _ (w : Plain) (good : Good w) (n : ℕ) (s : NodeState) (at : node_at w.nodes n ≡ Some s) where
  -- what is used in this event is the drive's
  abbrev IsRight : Event → Type 0
  IsRight e = (u : LockName × ℕ) → used_in e ≡ Some u → slice_get w.blocks u.1 ≡ Some (block_used w s u.0 u.1)

  nothing : (e : Event) → used_in e ≡ None → IsRight e
  nothing e none u f = absurd (let z : None ≡ Some u = sym none ∙ f in cc)

  entry_right : (name : LockName) (lbn : ℕ) → Has (held_in PR (held_by w.locks n s)) name → (o : Option Cached) → current_entry w.geometry w.locks name lbn s.cache ≡ o → is_some o ≡ true → slice_get w.blocks lbn ≡ Some (block_used w s name lbn)
  entry_right name lbn holds None e f = absurd (let z : false ≡ true = f in cc)
  entry_right name lbn holds (Some x) e f = current_is_drives w n s name lbn x good at holds e ∙ ap (λ (o : Option Cached). Some (cached_block o)) (sym e)

  used_right : (name : LockName) (lbn : ℕ) → Has (held_in PR (held_by w.locks n s)) name → has_current w s name lbn ≡ true → (e : Event) → used_in e ≡ Some (name, lbn) → IsRight e
  used_right name lbn holds is e e_is u f =
      let z : Some (name, lbn) ≡ Some u = sym e_is ∙ f in
      subst (λ (v : LockName × ℕ). slice_get w.blocks v.1 ≡ Some (block_used w s v.0 v.1)) (same (name, lbn) u z) (entry_right name lbn holds (current_entry w.geometry w.locks name lbn s.cache) refl is) where
        same : (a b : LockName × ℕ) → Some a ≡ Some b → a ≡ b
        same a b g = ap (in_it a) g where
          in_it : LockName × ℕ → Option (LockName × ℕ) → LockName × ℕ
          in_it a None = a
          in_it a (Some y) = y

  look_right : (name : LockName) (lbn : ℕ) → Has (held_in PR (held_by w.locks n s)) name → IsRight (or_use w s (event.Look name lbn))
  look_right name lbn holds = by_test (has_current w s name lbn) refl where
    by_test : (b : Bool) → has_current w s name lbn ≡ b → IsRight (cond b (event.Use name lbn) (event.Look name lbn))
    by_test true e = used_right name lbn holds e (event.Use name lbn) refl
    by_test false e = nothing (event.Look name lbn) refl

  -- a look by the rules for space, where V is claimed and granted
  space_right : waits_at w.locks n s.claims ≡ false → Has s.claims (V, PW) → (k : ℕ) (c : Bool) (lbn : ℕ) → IsRight (or_use w s (event.SpaceLook k c lbn))
  space_right granted claims k c lbn = by_test (has_current w s V lbn) refl where
    holds : Has (held_in PR (held_by w.locks n s)) V
    holds = is_in_held PR (held_by w.locks n s) V (record { in_mode = PW; has = claims_held w.locks n s (V, PW) granted claims; strong = omega arith })

    by_test : (b : Bool) → has_current w s V lbn ≡ b → IsRight (cond b (event.SpaceUse k c lbn) (event.SpaceLook k c lbn))
    by_test true e = used_right V lbn holds e (event.SpaceUse k c lbn) refl
    by_test false e = nothing (event.SpaceLook k c lbn) refl

  put_right : (o : Option PlanWrite) → IsRight (or_use w s (by_put o))
  put_right None = nothing event.SpaceEnd refl
  put_right (Some v) = nothing (event.SpaceWrite v) refl

  rule_right : waits_at w.locks n s.claims ≡ false → (p : Phase) (nd : SpaceNeed) (e : SpaceEvent) → ((lbn : ℕ) → e ≡ space.Look lbn → Has s.claims (V, PW)) → IsRight (or_use w s (by_rule s p nd e))
  rule_right granted p nd space.Enough under = nothing event.SpaceEnd refl
  rule_right granted p nd (space.Ask name mode) under = nothing (event.Claim p name mode) refl
  rule_right granted p nd space.LowerX under = nothing event.LowerX refl
  rule_right granted p nd (space.Look lbn) under = space_right granted (under lbn refl) nd.clusters nd.number lbn
  rule_right granted p nd (space.Put lbn b) under = put_right (slice_get s.run.writes s.run.made)
  rule_right granted p nd space.LowerV under = nothing event.LowerV refl
  rule_right granted p nd space.Return under = nothing event.Return refl
  rule_right granted p nd (space.Short r) under = nothing event.SpaceEnd refl

  keeps : AreKept s.run.phase s.kept
  keeps = (good.nodes n s at).store.kept

  -- each look by the rules is under V
  under_v : (nd : SpaceNeed) (p : Phase) → s.run.phase ≡ p → (lbn : ℕ) → event_in p (space_state s) nd ≡ space.Look lbn → Has s.claims (V, PW)
  under_v nd phase.Off e lbn f = claimed_writer s.run.phase s.kept s.claims keeps (off_first (holds_enough nd.clusters nd.number (space_state s).stock) (is_shared (space_state s).locks.x) (is_writer (space_state s).locks.v) (written_first s.run (after_looks (next_fill (space_state s) nd) space.LowerV)) lbn f)
  under_v nd phase.Fill e lbn f = claimed_writer s.run.phase s.kept s.claims keeps (asks_first (is_shared (space_state s).locks.x) (is_writer (space_state s).locks.v) CR (written_first s.run (after_looks (next_fill (space_state s) nd) space.LowerV)) lbn f)
  under_v nd phase.Drain e lbn f = drain_claims s.cmd s e (good.nodes n s at).space
  under_v nd phase.Last e lbn f = claimed_writer s.run.phase s.kept s.claims keeps (asks_first (is_exclusive (space_state s).locks.x) (is_writer (space_state s).locks.v) EX (written_first s.run (by_search (answer s.seen.geometry nd.clusters nd.number (blocks_alone s.run.looked)))) lbn f)
  under_v nd phase.Back e lbn f = claimed_writer s.run.phase s.kept s.claims keeps (back_first (is_writer (space_state s).locks.v) (written_first s.run (after_looks (next_give (space_state s)) space.Return)) lbn f)

  back_right : waits_at w.locks n s.claims ≡ false → IsRight (or_use w s (by_back s))
  back_right granted = rule_right granted phase.Back (space_need 0 false) (back_event (space_state s)) (λ lbn f. claimed_writer s.run.phase s.kept s.claims keeps (back_first (is_writer (space_state s).locks.v) (written_first s.run (after_looks (next_give (space_state s)) space.Return)) lbn f))

  served_right : waits_at w.locks n s.claims ≡ false → (k : ℕ) (c : Bool) (b : Bool) → IsRight (or_use w s (cond b event.SpaceEnd (by_rule s (phase_begun s.run.phase) (space_need k c) (space_event (space_state s) (space_need k c)))))
  served_right granted k c true = nothing event.SpaceEnd refl
  served_right granted k c false = rule_right granted (phase_begun s.run.phase) (space_need k c) (space_event (space_state s) (space_need k c)) (λ lbn f. under_v (space_need k c) s.run.phase refl lbn f)

  end_right : (x : Cmd) (r : Reply) (tried : Bool) (o : Option Ask) → IsRight (or_use w s (by_end x r tried o))
  end_right x r tried None = nothing (event.Answer x r) refl
  end_right x r true (Some a) = nothing (event.Answer x r) refl
  end_right x r false (Some a) = nothing (event.Ask x a) refl

  write_right : (x : Cmd) (p : Plan) (tried : Bool) (o : Option PlanWrite) → IsRight (or_use w s (by_write x p tried o))
  write_right x p tried (Some v) = nothing (event.Write v) refl
  write_right x p tried None = end_right x p.reply tried p.ask

  module _ (granted : waits_at w.locks n s.claims ≡ false) (x : Cmd) (cmd : s.cmd ≡ Some x) (free : waits_at w.locks n s.asked ≡ false) where
    need_right : (next : Need) → IsNext x s.seen next → IsRight (or_use w s (by_need s next))
    need_right (need.Lock name mode) is = nothing (event.Lock name mode) refl
    need_right (need.Block name lbn) is = look_right name lbn (reads_more w good n s at x cmd free name (may_need w good n s at x cmd free (need.Block name lbn) is).held)
    need_right (need.Bare lbn) is = nothing (event.Fetch lbn) refl
    need_right (need.Space k c) is = served_right granted k c (serves s k c)
    need_right (need.Ready p) is = nothing (event.Plan p) refl

    plan_right : (o : Option Plan) → IsRight (or_use w s (by_plan x s o))
    plan_right None = need_right (need_of x s.seen) refl
    plan_right (Some p) = write_right x p s.tried (slice_get (writes_by p.ask s.tried p.writes) s.done)

-- ---- any node

module _ (w : Plain) (good : Good w) (n : ℕ) (s : NodeState) (at : node_at w.nodes n ≡ Some s) where
  pub event_right : (u : LockName × ℕ) → used_in (event_of w n (Some s)) ≡ Some u → slice_get w.blocks u.1 ≡ Some (block_used w s u.0 u.1)
  event_right = by_out (is_out s) where
    by_cmd : waits_at w.locks n s.claims ≡ false → waits_at w.locks n s.asked ≡ false → (o : Option Cmd) → s.cmd ≡ o → IsRight w good n s at (or_use w s (by_command s o))
    by_cmd granted free None e = nothing w good n s at event.Leave refl
    by_cmd granted free (Some x) e = plan_right w good n s at granted x e free s.plan

    by_gives : (t : Bool) → gives_back w n s ≡ t → stands w n s ≡ false → IsRight w good n s at (or_use w s (by_turn s t))
    by_gives true e still = back_right w good n s at (not_standing (waits_at w.locks n s.claims) (gives_back w n s) (waits_at w.locks n s.asked) still).0
    by_gives false e still = let its = not_standing (waits_at w.locks n s.claims) (gives_back w n s) (waits_at w.locks n s.asked) still in by_cmd its.0 (its.1 e) s.cmd refl

    by_waits : (t : Bool) → stands w n s ≡ t → IsRight w good n s at (cond t event.Stand (or_use w s (by_turn s (gives_back w n s))))
    by_waits true e = nothing w good n s at event.Stand refl
    by_waits false e = by_gives (gives_back w n s) refl e

    by_out : (t : Bool) → IsRight w good n s at (cond t event.Rest (cond (stands w n s) event.Stand (or_use w s (by_turn s (gives_back w n s)))))
    by_out true = nothing w good n s at event.Rest refl
    by_out false = by_waits (stands w n s) refl

-- what a node uses in its next event in this world is the drive's
abbrev IsRightIn : ℕ → Plain → Type 0
IsRightIn n v = (u : LockName × ℕ) → used_in (event_of v n (node_at v.nodes n)) ≡ Some u → IsDrives v n u

-- Each cached block that a turn uses is the drive's.
pub uses_right : (w : Plain) → Good w → (n : ℕ) → ((s : NodeState) (x : Cmd) → node_at w.nodes n ≡ Some s → is_held_up w n s ≡ false → current w n s ≡ Some x → Lawful x) → UsesTheDrives w n
uses_right w good n lawful u f s at = by_node (node_at w.nodes n) refl u f s at where
  by_node : (o : Option NodeState) → node_at w.nodes n ≡ o → IsRightIn n (readied_at w n o)
  by_node None e u f s at = absurd (let z : None ≡ Some s = sym e ∙ at in cc)
  by_node (Some q) e u f s at =
      let p : NodeState = prepared w n q in
      let v : Plain = with_node w n p in
      let good_then : Good v = prepares_keep w good n q e (λ x calm_now c. lawful q x e calm_now c) in
      event_right v good_then n s at u (sym (ap (λ (o : Option NodeState). used_in (event_of v n o)) at) ∙ f)
