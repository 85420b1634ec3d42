-- A command that a node begins obeys the law, since the world keeps the rules after the turn in which it is begun.
use Rattle.std.proofs.Common.{◌≡◌, ◌||◌, ℕ, Bool, true, false, cond, Option, Some, None, slice_get, refl, sym, ap, subst, ◌∙◌}
use Rattle.lock_db.specs.declared.name.LockName.TheVariants.{V}
use Rattle.plain_cat.specs.declared.command.Cmd.{Cmd}
use Rattle.plain_rules.specs.Own.{next_command}
use Rattle.op_law.specs.declared.need.Need.{Need}
use Rattle.op_law.specs.declared.need.Need.TheVariants as need
use Rattle.op_law.specs.declared.need.Plan.{Plan}
use Rattle.op_law.specs.declared.need.PlanWrite.{PlanWrite}
use Rattle.op_law.specs.Needs.{need_of}
use Rattle.op_law.specs.Laws.{Lawful}
use Rattle.core_space.specs.declared.run.Phase.{Phase}
use Rattle.core_space.specs.declared.run.Phase.TheVariants as phase
use Rattle.core_space.specs.declared.run.SpaceNeed.{SpaceNeed}
use Rattle.core_space.specs.declared.event.SpaceEvent.{SpaceEvent}
use Rattle.core_space.specs.declared.event.SpaceEvent.TheVariants as space
use Rattle.core_space.specs.Rule.{back_event, space_event}
use Rattle.core_state.specs.Worlds.{NodeState, Plain, node_at, with_node, or_next}
use Rattle.core_state.specs.Goods.{IsAt, HasCommand, Good}
use Rattle.core_state.specs.Event.{Event}
use Rattle.core_state.specs.Event as event
use Rattle.core_state.specs.Events.{by_put, by_rule, phase_begun, serves, serving, space_need, space_state, by_need, by_plan, by_command, by_turn, or_use, has_current, is_out, gives_back, stands, event_of, event_now, begun, prepared_by, served_for, served_by, served, is_held_up, prepared, happen, happen_at, happens, after_turn, command_in, command_at}
use Rattle.core_state.proofs.Nodes.{at_here}
use Rattle.core_state.proofs.Preparing.{readied_is}
use Rattle.core_state.specs.Ends.{GoesLawfully}

-- ---- events that end a command

abbrev is_end : Event → Bool
is_end (event.Ask x a) = true
is_end (event.Answer x r) = true
is_end other = false

put_on : (o : Option PlanWrite) → is_end (by_put o) ≡ false
put_on None = refl
put_on (Some v) = refl

rule_on : (s : NodeState) (p : Phase) (k : SpaceNeed) (e : SpaceEvent) → is_end (by_rule s p k e) ≡ false
rule_on s p k space.Enough = refl
rule_on s p k (space.Ask name mode) = refl
rule_on s p k space.LowerX = refl
rule_on s p k (space.Look lbn) = refl
rule_on s p k (space.Put lbn b) = put_on (slice_get s.run.writes s.run.made)
rule_on s p k space.LowerV = refl
rule_on s p k space.Return = refl
rule_on s p k (space.Short r) = refl

need_on : (s : NodeState) (d : Need) → is_end (by_need s d) ≡ false
need_on s (need.Lock name mode) = refl
need_on s (need.Block name lbn) = refl
need_on s (need.Bare lbn) = refl
need_on s (need.Space clusters number) = by_test (serves s clusters number) where
  by_test : (b : Bool) → is_end (cond b event.SpaceEnd (by_rule s (phase_begun s.run.phase) (space_need clusters number) (space_event (space_state s) (space_need clusters number)))) ≡ false
  by_test true = refl
  by_test false = rule_on s (phase_begun s.run.phase) (space_need clusters number) (space_event (space_state s) (space_need clusters number))
need_on s (need.Ready p) = refl

use_on : (w : Plain) (s : NodeState) (e : Event) → is_end e ≡ false → is_end (or_use w s e) ≡ false
use_on w s (event.Look name lbn) h = by_test (has_current w s name lbn) where
  by_test : (b : Bool) → is_end (cond b (event.Use name lbn) (event.Look name lbn)) ≡ false
  by_test true = refl
  by_test false = refl
use_on w s (event.SpaceLook clusters number lbn) h = by_test (has_current w s V lbn) where
  by_test : (b : Bool) → is_end (cond b (event.SpaceUse clusters number lbn) (event.SpaceLook clusters number lbn)) ≡ false
  by_test true = refl
  by_test false = refl
use_on w s event.Rest h = h
use_on w s event.Stand h = h
use_on w s event.Leave h = h
use_on w s (event.Lock name mode) h = h
use_on w s (event.Use name lbn) h = h
use_on w s (event.Fetch lbn) h = h
use_on w s (event.Claim p name mode) h = h
use_on w s (event.SpaceUse clusters number lbn) h = h
use_on w s (event.SpaceWrite v) h = h
use_on w s event.LowerV h = h
use_on w s event.LowerX h = h
use_on w s event.Return h = h
use_on w s event.SpaceEnd h = h
use_on w s (event.Plan p) h = h
use_on w s (event.Write v) h = h
use_on w s (event.Ask x a) h = h
use_on w s (event.Answer x r) h = h

-- any other event leaves the command
command_stays : (w : Plain) (n : ℕ) (s : NodeState) (e : Event) → node_at w.nodes n ≡ Some s → is_end e ≡ false → command_at (happens w n s e) n ≡ s.cmd
command_stays w n s (event.Ask x a) at h = absurd (let z : true ≡ false = h in cc)
command_stays w n s (event.Answer x r) at h = absurd (let z : true ≡ false = h in cc)
command_stays w n s event.Rest at h = ap command_in (at_here w.nodes n _ s at)
command_stays w n s event.Stand at h = ap command_in (at_here w.nodes n _ s at)
command_stays w n s event.Leave at h = ap command_in (at_here w.nodes n _ s at)
command_stays w n s (event.Lock name mode) at h = ap command_in (at_here w.nodes n _ s at)
command_stays w n s (event.Look name lbn) at h = ap command_in (at_here w.nodes n _ s at)
command_stays w n s (event.Use name lbn) at h = ap command_in (at_here w.nodes n _ s at)
command_stays w n s (event.Fetch lbn) at h = ap command_in (at_here w.nodes n _ s at)
command_stays w n s (event.Claim p name mode) at h = ap command_in (at_here w.nodes n _ s at)
command_stays w n s (event.SpaceLook clusters number lbn) at h = ap command_in (at_here w.nodes n _ s at)
command_stays w n s (event.SpaceUse clusters number lbn) at h = ap command_in (at_here w.nodes n _ s at)
command_stays w n s (event.SpaceWrite v) at h = ap command_in (at_here w.nodes n _ s at)
command_stays w n s event.LowerV at h = ap command_in (at_here w.nodes n _ s at)
command_stays w n s event.LowerX at h = ap command_in (at_here w.nodes n _ s at)
command_stays w n s event.Return at h = ap command_in (at_here w.nodes n _ s at)
command_stays w n s event.SpaceEnd at h = ap command_in (at_here w.nodes n _ s at)
command_stays w n s (event.Plan p) at h = ap command_in (at_here w.nodes n _ s at)
command_stays w n s (event.Write v) at h = ap command_in (at_here w.nodes n _ s at)

-- ---- what is begun

record IsBegunSo (s : NodeState) (x : Cmd) (p : NodeState) : Type 0 where
  cmd : p.cmd ≡ Some x
  plan : p.plan ≡ s.plan
  out : is_out p ≡ is_out s

served_begun : (s : NodeState) (x : Cmd) → IsBegunSo s x (served (begun s x))
served_begun s x = by_plan_of s.plan refl where
  none : IsBegunSo s x (begun s x)
  none = record { cmd = refl; plan = refl; out = refl }

  by_test : (k : ℕ) (c b : Bool) → IsBegunSo s x (cond b (serving (begun s x) k c) (begun s x))
  by_test k c true = record { cmd = refl; plan = refl; out = refl }
  by_test k c false = none

  by_next : (d : Need) → IsBegunSo s x (served_for (begun s x) d)
  by_next (need.Lock name mode) = none
  by_next (need.Block name lbn) = none
  by_next (need.Bare lbn) = none
  by_next (need.Space k c) = by_test k c (serves (begun s x) k c)
  by_next (need.Ready q) = none

  by_plan_of : (o : Option Plan) → s.plan ≡ o → IsBegunSo s x (served_by (begun s x) (Some x) s.plan)
  by_plan_of (Some q) e = subst (λ (o : Option Plan). IsBegunSo s x (served_by (begun s x) (Some x) o)) (sym e) none
  by_plan_of None e = subst (λ (o : Option Plan). IsBegunSo s x (served_by (begun s x) (Some x) o)) (sym e) (by_next (need_of x (begun s x).seen))

not_held : (a b c : Bool) → (a || (b || c)) ≡ false → (a ≡ false) × (c ≡ false)
not_held true b c e = absurd (let f : true ≡ false = e in cc)
not_held false true c e = absurd (let f : true ≡ false = e in cc)
not_held false false c e = (refl, e)

module _ (w : Plain) (good : Good w) (n : ℕ) (after : Good (after_turn w n)) where
  begins_lawfully : (s : NodeState) (x : Cmd) → node_at w.nodes n ≡ Some s → is_held_up w n s ≡ false → s.cmd ≡ None → next_command w.script n w.history ≡ Some x → Lawful x
  begins_lawfully s x at calm none next = by_node (node_at (after_turn w n).nodes n) refl still where
    p : NodeState
    p = prepared w n s

    v : Plain
    v = with_node w n p

    is : p ≡ served (begun s x)
    is = (λ i. cond (calm i) s (served (prepared_by s (none i) (next i))))

    so : IsBegunSo s x p
    so = subst (IsBegunSo s x) (sym is) (served_begun s x)

    no_plan : s.plan ≡ None
    no_plan = (subst (HasCommand w n s) none (good.nodes n s at).command).plan

    its : (is_out s ≡ false) × (stands w n s ≡ false)
    its = not_held (is_out s) (gives_back w n s) (stands w n s) calm

    turn_on : (b : Bool) → is_end (by_turn p b) ≡ false
    turn_on true = rule_on p phase.Back (space_need 0 false) (back_event (space_state p))
    turn_on false = ap is_end (ap (by_command p) so.cmd ∙ ap (by_plan x p) (so.plan ∙ no_plan)) ∙ need_on p (need_of x p.seen)

    end_on : (a b : Bool) (e : Event) → is_end e ≡ false → is_end (cond a event.Rest (cond b event.Stand e)) ≡ false
    end_on true b e h = refl
    end_on false true e h = refl
    end_on false false e h = h

    event_on : is_end (event_of v n (Some p)) ≡ false
    event_on = end_on (is_out p) (stands v n p) (or_use v p (by_turn p (gives_back v n p))) (use_on v p (by_turn p (gives_back v n p)) (turn_on (gives_back v n p)))

    turned_so : after_turn w n ≡ happens v n p (event_of v n (Some p))
    turned_so = ap (λ u. happen u n (event_now u n)) (readied_is w n s p at refl) ∙ ap (λ o. happen_at v n o (event_of v n o)) (at_here w.nodes n p s at)

    still : command_at (after_turn w n) n ≡ Some x
    still = ap (λ u. command_at u n) turned_so ∙ command_stays v n p (event_of v n (Some p)) (at_here w.nodes n p s at) event_on ∙ so.cmd

    by_node : (o : Option NodeState) → node_at (after_turn w n).nodes n ≡ o → command_in (node_at (after_turn w n).nodes n) ≡ Some x → Lawful x
    by_node None e f = absurd (let z : None ≡ Some x = sym (ap command_in e) ∙ f in cc)
    by_node (Some r) e f =
        let cmd : r.cmd ≡ Some x = sym (ap command_in e) ∙ f in
        let now : IsAt (after_turn w n) n r x = subst (HasCommand (after_turn w n) n r) cmd (after.nodes n r e).command in
        now.lawful

  pub goes_lawfully : GoesLawfully w n
  goes_lawfully s x at calm is = by_cmd s.cmd refl is where
    by_cmd : (o : Option Cmd) → s.cmd ≡ o → or_next o (next_command w.script n w.history) ≡ Some x → Lawful x
    by_cmd None e f = begins_lawfully s x at calm e f
    by_cmd (Some y) e f =
        let now : IsAt w n s y = subst (HasCommand w n s) e (good.nodes n s at).command in
        let z : Some y ≡ Some x = f in
        let same : y ≡ x = cc in
        subst Lawful same now.lawful
