-- Every turn keeps the invariant.
use Rattle.std.proofs.Common.{◌≡◌, ◌<◌, ◌&&◌, ◌||◌, not, ℕ, Bool, true, false, cond, List, Option, Some, None, length, slice_get, refl, sym, ap, subst, ◌∙◌, inl, inr}
use Rattle.plain_cat.specs.declared.mode.Mode.TheVariants.{PR}
use Rattle.plain_cat.specs.declared.command.Cmd.{Cmd}
use Rattle.plain_cat.specs.declared.reply.Reply.{Reply}
use Rattle.plain_rules.specs.Own.{next_command}
use Rattle.node_locks.specs.Held.{waits_at}
use Rattle.vol_parts.specs.declared.geometry.Geometry.{Geometry}
use Rattle.vol_under.specs.Guards.{Lock, guard_of, MayLook}
use Rattle.vol_under.specs.UnderWay.{UnderWay, changed}
use Rattle.core_state.specs.Committed.{IsUnderOn, on_its_own}
use Rattle.core_state.proofs.Committed.{alike_on}
use Rattle.vol_under.proofs.Nodes.{each}
use Rattle.op_law.specs.declared.need.Need.{Need}
use Rattle.op_law.specs.declared.need.Need.TheVariants as need
use Rattle.op_law.specs.declared.need.Ask.{Ask}
use Rattle.op_law.specs.declared.need.Plan.{Plan}
use Rattle.op_law.specs.declared.need.PlanWrite.{PlanWrite}
use Rattle.op_law.specs.Needs.{need_of, IsNext}
use Rattle.op_law.specs.Going.{IsLookAt}
use Rattle.op_law.specs.Laws.{held_in, IsCacheable, Lawful}
use Rattle.core_space.specs.declared.run.Phase.TheVariants as phase
use Rattle.core_space.specs.Rule.{space_event}
use Rattle.core_state.specs.Worlds.{NodeState, Plain, node_at, with_node, or_next, current}
use Rattle.core_state.specs.Asks.{writes_by}
use Rattle.core_state.specs.Searches.{wanted_by, numbered_by, IsOff, Spaces}
use Rattle.core_state.specs.Goods.{under_with, nodes_under, IsNode, Good}
use Rattle.core_state.specs.Event.{Event}
use Rattle.core_state.specs.Event as event
use Rattle.core_state.specs.Events.{phase_begun, serves, serving, served_for, served_by, served, space_state, space_need, by_rule, by_need, by_write, by_end, by_plan, by_command, by_turn, is_out, gives_back_in, gives_back, stands, event_of, event_now, begun, prepared_by, is_held_up, prepared, readied_at, happens, happen_at, happen, after_turn, turned, or_use}
use Rattle.base_words.specs.Faults.{next as one_more}
use Rattle.base_words.specs.Fields.{block_at}
use Rattle.core_state.proofs.StockSizes.{few_stays}
use Rattle.core_state.proofs.Nodes.{at_here, set_node_twice, set_node_same}
use Rattle.core_state.proofs.Running.{under_here}
use Rattle.core_state.proofs.SmallWorlds.{owes_same}
use Rattle.core_state.proofs.Beginning.{alone, stays_stocked, begins}
use Rattle.core_state.proofs.Standing.{at_rest_so}
use Rattle.core_state.proofs.Turning.{under_command, drive, may_need, goes, reads_more, index_within, seen_so, locks_keep, sees_keep, plans_keep, writes_keep}
use Rattle.core_state.proofs.CachedTurns.{look_turn}
use Rattle.core_state.proofs.CachedPlans.{plan_within, plan_named, plan_guards}
use Rattle.core_state.proofs.Serving.{serve_keeps}
use Rattle.core_state.proofs.Rulings.{rules_keep, backs_keep}
use Rattle.core_state.proofs.Leaving.{leaves_keep}
use Rattle.core_state.proofs.Trying.{ends_keep}

-- ---- a node that does nothing

module _ (w : Plain) (good : Good w) (n : ℕ) (s : NodeState) (at : node_at w.nodes n ≡ Some s) where
  mine : IsNode w n s
  mine = good.nodes n s at

  turned_keeps : Good (with_node w n (turned s))
  turned_keeps = alone w good n s at (turned s) refl (λ part o low. refl) refl (owes_same s (turned s) refl refl) (stays_stocked s (turned s) refl refl (λ h. h) (few_stays s (turned s) refl refl refl) (good.running.stocked n s at)) drive_then refl (λ e h. inl h) (record {
    past = mine.past;
    geometry = mine.geometry;
    channels = mine.channels;
    channel = mine.channel;
    store = mine.store;
    rests = mine.rests;
    asks = mine.asks;
    command = mine.command;
    space = mine.space;
    over = mine.over;
    gone = mine.gone;
  }) where
    drive_then : IsUnderOn w.geometry good.running.cat good.running.drive.base good.running.drive.own (changed (nodes_under w.locks w.nodes) n (under_with w.locks n (turned s) s.cmd)) w.blocks
    drive_then = subst (λ (v : UnderWay). IsUnderOn w.geometry good.running.cat good.running.drive.base good.running.drive.own (changed (nodes_under w.locks w.nodes) n v) w.blocks) (under_here w.locks w.nodes n s at)
        (alike_on w.geometry good.running.cat good.running.drive.base good.running.drive.own (nodes_under w.locks w.nodes) (changed (nodes_under w.locks w.nodes) n (nodes_under w.locks w.nodes n)) w.blocks (λ m. sym (each (λ (k : ℕ) (v : UnderWay). v ≡ nodes_under w.locks w.nodes k) (nodes_under w.locks w.nodes) n (nodes_under w.locks w.nodes n) refl (λ k ne. refl) m)) (on_its_own w.geometry good.running.cat (nodes_under w.locks w.nodes) w.blocks good.running.drive))

-- what comes behind the writes of a plan is no look
no_look : (w : Plain) (s : NodeState) (x : Cmd) (r : Reply) (tried : Bool) (o : Option Ask) → or_use w s (by_end x r tried o) ≡ by_end x r tried o
no_look w s x r tried None = refl
no_look w s x r true (Some a) = refl
no_look w s x r false (Some a) = refl

-- ---- a node with a command, which gives nothing back

module _ (w : Plain) (good : Good w) (n : ℕ) (s : NodeState) (at : node_at w.nodes n ≡ Some s) (on : is_out s ≡ false) (x : Cmd) (cmd : s.cmd ≡ Some x) (free : waits_at w.locks n s.asked ≡ false) (granted : waits_at w.locks n s.claims ≡ false) (calmly : s.run.phase ≡ phase.Back → ⊥) where
  within : (lbn : ℕ) → lbn < length (drive w good n s at x cmd free).base → lbn < length w.blocks
  within lbn lt = subst (λ (k : ℕ). lbn < k) (sym (drive w good n s at x cmd free).over.count) lt

  me_geometry : s.seen.geometry ≡ w.geometry
  me_geometry = (good.nodes n s at).geometry

  space_keeps : s.plan ≡ None → IsNext x s.seen (need.Space (wanted_by x s.seen) (numbered_by x s.seen)) → (b : Bool) → serves s (wanted_by x s.seen) (numbered_by x s.seen) ≡ b
      → Good (happens w n s (or_use w s (cond b event.SpaceEnd (by_rule s (phase_begun s.run.phase) (space_need (wanted_by x s.seen) (numbered_by x s.seen)) (space_event (space_state s) (space_need (wanted_by x s.seen) (numbered_by x s.seen)))))))
  space_keeps no_plan is true e = turned_keeps w good n s at
  space_keeps no_plan is false e = rules_keep w good n s at on x cmd free no_plan granted is e calmly

  need_keeps : s.plan ≡ None → (next : Need) → IsNext x s.seen next → Good (happens w n s (or_use w s (by_need s next)))
  need_keeps no_plan (need.Lock name mode) is = locks_keep w good n s at x cmd free no_plan calmly name mode is
  need_keeps no_plan (need.Block name lbn) is =
      let may = may_need w good n s at x cmd free (need.Block name lbn) is in
      look_turn w good n s at name lbn (reads_more w good n s at x cmd free name may.held)
      (subst (λ (g : Geometry). guard_of g good.running.drive.own lbn ≡ Some (Lock name)) me_geometry may.guard)
      (subst (λ (g : Geometry). IsCacheable g good.running.drive.own good.running.cat lbn) me_geometry may.kind) (within lbn may.within)
      (λ b es reads hits there store entries. sees_keep w good n s at x cmd free no_plan calmly lbn b es reads hits
      ((goes w good n s at x cmd free).looked s.seen lbn b (under_command w good n s at x cmd free).seen (subst (IsLookAt lbn) (sym is) refl))
      (λ k c e. absurd (let f : need.Block name lbn ≡ need.Space k c = sym is ∙ e in cc))
      (subst (MayLook (held_in PR s.seen.locks)) (sym may.guard) may.held) there store (λ e h. entries (seen_so s lbn b es reads hits) refl e h))
  need_keeps no_plan (need.Bare lbn) is =
      let may = may_need w good n s at x cmd free (need.Bare lbn) is in
      sees_keep w good n s at x cmd free no_plan calmly lbn (block_at w.blocks lbn) s.cache (one_more s.reads) s.hits
      ((goes w good n s at x cmd free).looked s.seen lbn (block_at w.blocks lbn) (under_command w good n s at x cmd free).seen (subst (IsLookAt lbn) (sym is) refl))
      (λ k b e. absurd (let f : need.Bare lbn ≡ need.Space k b = sym is ∙ e in cc))
      may.guard (index_within w.blocks lbn (within lbn may.within)) (good.nodes n s at).store (λ e h. inl h)
  need_keeps no_plan (need.Space clusters number) is =
      let may = may_need w good n s at x cmd free (need.Space clusters number) is in
      let k : clusters ≡ wanted_by x s.seen = may.0.clusters_are in
      let b : number ≡ numbered_by x s.seen = may.0.number_is in
      subst (λ (nd : Need). Good (happens w n s (or_use w s (by_need s nd)))) (λ i. need.Space (sym k i) (sym b i))
      (space_keeps no_plan (is ∙ (λ i. need.Space (k i) (b i))) (serves s (wanted_by x s.seen) (numbered_by x s.seen)) refl)
  need_keeps no_plan (need.Ready p) is = plans_keep w good n s at x cmd free no_plan p is

  write_keeps : (p : Plan) → s.plan ≡ Some p → (o : Option PlanWrite) → slice_get (writes_by p.ask s.tried p.writes) s.done ≡ o → Good (happens w n s (or_use w s (by_write x p s.tried o)))
  write_keeps p plan (Some v) next = writes_keep w good n s at x cmd free p plan v next (plan_within w good n s at x cmd free p plan v next) (plan_named w good n s at x cmd free p plan v next) (plan_guards w good n s at x cmd free p plan v next)
  write_keeps p plan None last = subst (λ (e : Event). Good (happens w n s e)) (sym (no_look w s x p.reply s.tried p.ask)) (ends_keep w good n s at x cmd free granted calmly p plan last)

  pub plan_keeps : (o : Option Plan) → s.plan ≡ o → Good (happens w n s (or_use w s (by_plan x s o)))
  plan_keeps None e = need_keeps e (need_of x s.seen) refl
  plan_keeps (Some p) e = write_keeps p e (slice_get (writes_by p.ask s.tried p.writes) s.done) refl

-- ---- any node that has prepared for its event

-- where no request of it stands, it waits for none of its rules for space, and for none of its command but where it gives its stock back
pub not_standing : (a g b : Bool) → (a || (not g && b)) ≡ false → (a ≡ false) × (g ≡ false → b ≡ false)
not_standing true g b e = absurd (let f : true ≡ false = e in cc)
not_standing false true b e = (refl, λ f. absurd (let z : true ≡ false = f in cc))
not_standing false false b e = (refl, λ f. e)

module _ (w : Plain) (good : Good w) (n : ℕ) (s : NodeState) (at : node_at w.nodes n ≡ Some s) where
  pub event_keeps : (is_out s ≡ false → stands w n s ≡ false → gives_back w n s ≡ false → s.cmd ≡ None → next_command w.script n w.history ≡ None) → Good (happens w n s (event_of w n (Some s)))
  event_keeps ends = by_out (is_out s) refl where
    calmly : gives_back w n s ≡ false → s.run.phase ≡ phase.Back → ⊥
    calmly e f = absurd (let g : true ≡ false = sym (ap (gives_back_in w n s) f) ∙ e in cc)

    by_cmd : is_out s ≡ false → stands w n s ≡ false → gives_back w n s ≡ false → (o : Option Cmd) → s.cmd ≡ o → Good (happens w n s (or_use w s (by_command s o)))
    by_cmd on still keeps_it None e = leaves_keep w good n s at on e (ends on still keeps_it e) keeps_it
    by_cmd on still keeps_it (Some x) e =
        let its = not_standing (waits_at w.locks n s.claims) (gives_back w n s) (waits_at w.locks n s.asked) still in
        plan_keeps w good n s at on x e (its.1 keeps_it) its.0 (calmly keeps_it) s.plan refl

    by_gives : (t : Bool) → is_out s ≡ false → stands w n s ≡ false → gives_back w n s ≡ t → Good (happens w n s (or_use w s (by_turn s t)))
    by_gives true on still e = backs_keep w good n s at on (not_standing (waits_at w.locks n s.claims) (gives_back w n s) (waits_at w.locks n s.asked) still).0 e
    by_gives false on still e = by_cmd on still e s.cmd refl

    by_waits : (t : Bool) → is_out s ≡ false → stands w n s ≡ t → Good (happens w n s (cond t event.Stand (or_use w s (by_turn s (gives_back w n s)))))
    by_waits true on e = turned_keeps w good n s at
    by_waits false on e = by_gives (gives_back w n s) on e refl

    by_out : (t : Bool) → is_out s ≡ t → Good (happens w n s (cond t event.Rest (cond (stands w n s) event.Stand (or_use w s (by_turn s (gives_back w n s))))))
    by_out true e = turned_keeps w good n s at
    by_out false e = by_waits (stands w n s) e refl

-- ---- what a node prepares

-- with space or without, it has the command that it had
served_cmd : (p : NodeState) (o : Option Cmd) (q : Option Plan) → (served_by p o q).cmd ≡ p.cmd
served_cmd p None q = refl
served_cmd p (Some x) (Some y) = refl
served_cmd p (Some x) None = by_need_of (need_of x p.seen) where
  by_test : (k : ℕ) (b t : Bool) → (cond t (serving p k b) p).cmd ≡ p.cmd
  by_test k b true = refl
  by_test k b false = refl

  by_need_of : (nd : Need) → (served_for p nd).cmd ≡ p.cmd
  by_need_of (need.Lock name mode) = refl
  by_need_of (need.Block name lbn) = refl
  by_need_of (need.Bare lbn) = refl
  by_need_of (need.Space k b) = by_test k b (serves p k b)
  by_need_of (need.Ready q) = refl

module _ (w : Plain) (good : Good w) (n : ℕ) (p : NodeState) (at : node_at w.nodes n ≡ Some p) (free : waits_at w.locks n p.asked ≡ false) where
  as_it_is : Good (with_node w n p)
  as_it_is = subst (λ (ns : List NodeState). Good (record w { nodes = ns })) (sym (set_node_same w.nodes n p at)) good

  serves_keep : (o : Option Cmd) (q : Option Plan) → p.cmd ≡ o → p.plan ≡ q → Good (with_node w n (served_by p o q))
  serves_keep None q cmd plan = as_it_is
  serves_keep (Some x) (Some y) cmd plan = as_it_is
  serves_keep (Some x) None cmd plan = by_need_of (need_of x p.seen) refl where
    by_test : (k : ℕ) (b : Bool) → IsNext x p.seen (need.Space k b) → (t : Bool) → serves p k b ≡ t → Good (with_node w n (cond t (serving p k b) p))
    by_test k b is true e = serve_keeps w good n p at x cmd free plan k b is e
    by_test k b is false e = as_it_is

    by_need_of : (nd : Need) → IsNext x p.seen nd → Good (with_node w n (served_for p nd))
    by_need_of (need.Lock name mode) is = as_it_is
    by_need_of (need.Block name lbn) is = as_it_is
    by_need_of (need.Bare lbn) is = as_it_is
    by_need_of (need.Space k b) is = by_test k b is (serves p k b) refl
    by_need_of (need.Ready q) is = as_it_is

-- where it is held up by nothing
not_held : (a b c : Bool) → (a || (b || c)) ≡ false → (a ≡ false) × (b ≡ false) × (c ≡ false)
not_held true b c e = absurd (let f : true ≡ false = e in cc)
not_held false true c e = absurd (let f : true ≡ false = e in cc)
not_held false false c e = (refl, refl, e)

module _ (w : Plain) (good : Good w) (n : ℕ) (s : NodeState) (at : node_at w.nodes n ≡ Some s) (lawful : (x : Cmd) → is_held_up w n s ≡ false → current w n s ≡ Some x → Lawful x) where
  -- it begins its next command
  begins_keep : is_held_up w n s ≡ false → (o k : Option Cmd) → s.cmd ≡ o → next_command w.script n w.history ≡ k → Good (with_node w n (prepared_by s o k))
  begins_keep calm_now (Some x) k e f = subst (λ (ns : List NodeState). Good (record w { nodes = ns })) (sym (set_node_same w.nodes n s at)) good
  begins_keep calm_now None None e f = subst (λ (ns : List NodeState). Good (record w { nodes = ns })) (sym (set_node_same w.nodes n s at)) good
  begins_keep calm_now None (Some x) e f =
      let its = not_held (is_out s) (gives_back w n s) (stands w n s) calm_now in
      begins w good n s at x e its.0 (by_rest its.1) f (lawful x calm_now ((λ i. or_next (e i) (f i)))) where
        by_rest : gives_back w n s ≡ false → IsOff s.claims s.run s.seen
        by_rest keeps_it = elim (at_rest_so s.kept s.claims s.run s.stock s.seen (subst (λ (o : Option Cmd). Spaces o s.kept s.claims s.run s.stock s.seen) e (good.nodes n s at).space)) [
          | inl h ↦ h
          | inr h ↦ absurd (let z : true ≡ false = sym (ap (gives_back_in w n s) h.back) ∙ keeps_it in cc)
        ]

  same_asked : (o k : Option Cmd) → (prepared_by s o k).asked ≡ s.asked
  same_asked (Some x) k = refl
  same_asked None None = refl
  same_asked None (Some x) = refl

  -- and is given space from its stock
  pub prepares_keep : Good (with_node w n (prepared w n s))
  prepares_keep = by_held (is_held_up w n s) refl where
    p : NodeState
    p = prepared_by s s.cmd (next_command w.script n w.history)

    by_held : (t : Bool) → is_held_up w n s ≡ t → Good (with_node w n (cond t s (served p)))
    by_held true e = subst (λ (ns : List NodeState). Good (record w { nodes = ns })) (sym (set_node_same w.nodes n s at)) good
    by_held false e =
        let its = not_held (is_out s) (gives_back w n s) (stands w n s) e in
        let free = (not_standing (waits_at w.locks n s.claims) (gives_back w n s) (waits_at w.locks n s.asked) its.2).1 its.1 in
        let v : Plain = with_node w n p in
        let one : Good v = begins_keep e s.cmd (next_command w.script n w.history) refl refl in
        let two : Good (with_node v n (served p)) = serves_keep v one n p (at_here w.nodes n p s at) (ap (waits_at w.locks n) (same_asked s.cmd (next_command w.script n w.history)) ∙ free) p.cmd p.plan refl refl in
        subst (λ (ns : List NodeState). Good (record w { nodes = ns })) (set_node_twice w.nodes n p (served p)) two

-- a node that has prepared and has no command has none left
ends_at : (w : Plain) (n : ℕ) (s : NodeState) (t : Bool) → is_held_up w n s ≡ t → (o : Option Cmd) → s.cmd ≡ o → (k : Option Cmd)
    → is_out (cond t s (served (prepared_by s o k))) ≡ false → stands w n (cond t s (served (prepared_by s o k))) ≡ false → gives_back w n (cond t s (served (prepared_by s o k))) ≡ false → (cond t s (served (prepared_by s o k))).cmd ≡ None → k ≡ None
ends_at w n s true e o c k on still keeps_it none = absurd (let g : true ≡ false = sym e ∙ (λ i. on i || (keeps_it i || still i)) in cc)
ends_at w n s false e (Some x) c k on still keeps_it none = absurd (let g : Some x ≡ None = sym c ∙ sym (served_cmd s s.cmd s.plan) ∙ none in cc)
ends_at w n s false e None c None on still keeps_it none = refl
ends_at w n s false e None c (Some x) on still keeps_it none = absurd (let g : Some x ≡ None = sym (served_cmd (begun s x) (Some x) s.plan) ∙ none in cc)

-- the turn of a node, whose command obeys the law where it goes on
pub turn_keeps : (w : Plain) → Good w → (n : ℕ) → ((s : NodeState) (x : Cmd) → node_at w.nodes n ≡ Some s → is_held_up w n s ≡ false → current w n s ≡ Some x → Lawful x) → Good (after_turn w n)
turn_keeps w good n lawful = by_node (node_at w.nodes n) refl where
  at_once : (v : Plain) (o : Option NodeState) → node_at v.nodes n ≡ o → Good (happen_at v n o (event_of v n o)) → Good (happen v n (event_now v n))
  at_once v o e g = subst (λ (q : Option NodeState). Good (happen_at v n q (event_of v n q))) (sym e) g

  by_node : (o : Option NodeState) → node_at w.nodes n ≡ o → Good (happen (readied_at w n o) n (event_now (readied_at w n o) n))
  by_node None e = at_once w None e good
  by_node (Some s) e =
      let p : NodeState = prepared w n s in
      let v : Plain = with_node w n p in
      let there : node_at v.nodes n ≡ Some p = at_here w.nodes n p s e in
      let good_then : Good v = prepares_keep w good n s e (λ x calm_now c. lawful s x e calm_now c) in
      at_once v (Some p) there (event_keeps v good_then n p there (ends_at w n s (is_held_up w n s) refl s.cmd refl (next_command w.script n w.history)))
