-- A node whose requests stand in no queue moves.
use Rattle.std.proofs.Common.{◌≡◌, ◌&&◌, ◌||◌, not, ℕ, Bool, true, false, cond, Option, Some, None, slice_get, refl, sym, ap, ◌∙◌}
use Rattle.plain_cat.specs.declared.command.Cmd.{Cmd}
use Rattle.plain_cat.specs.declared.reply.Reply.{Reply}
use Rattle.plain_rules.specs.Own.{next_command}
use Rattle.node_locks.specs.Held.{waits_at}
use Rattle.op_law.specs.declared.need.Need.{Need}
use Rattle.op_law.specs.declared.need.Need.TheVariants as need
use Rattle.op_law.specs.declared.need.Ask.{Ask}
use Rattle.op_law.specs.declared.need.Plan.{Plan}
use Rattle.op_law.specs.declared.need.PlanWrite.{PlanWrite}
use Rattle.op_law.specs.Needs.{need_of}
use Rattle.core_space.specs.declared.run.Phase.{Phase}
use Rattle.core_space.specs.declared.run.Phase.TheVariants as phase
use Rattle.core_space.specs.declared.run.SpaceNeed.{SpaceNeed}
use Rattle.core_space.specs.declared.event.SpaceEvent.{SpaceEvent}
use Rattle.core_space.specs.declared.event.SpaceEvent.TheVariants as space
use Rattle.core_space.specs.Rule.{back_event, space_event}
use Rattle.lock_db.specs.declared.name.LockName.TheVariants.{V}
use Rattle.core_state.specs.Worlds.{NodeState, Plain, node_at, with_node}
use Rattle.core_state.specs.Asks.{writes_by}
use Rattle.core_state.specs.Event.{Event}
use Rattle.core_state.specs.Event as event
use Rattle.core_state.specs.Events.{by_put, by_rule, phase_begun, serves, space_need, space_state, by_space, by_need, by_end, by_write, by_plan, by_command, by_turn, or_use, has_current, is_out, gives_back, stands, event_of, event_now, next_event, begun, prepared_by, serving, served_for, served_by, served, is_held_up, prepared, is_over_in}
use Rattle.core_state.proofs.Nodes.{at_here}
use Rattle.core_state.proofs.Preparing.{rests_prepared, readied_is}
use Rattle.core_ends.specs.Moving.{Moves}

-- ---- no event of a node that does not wait is to wait

abbrev pub is_stand : Event → Bool
is_stand event.Stand = true
is_stand other = false

not_put : (o : Option PlanWrite) → is_stand (by_put o) ≡ false
not_put None = refl
not_put (Some v) = refl

not_rule : (s : NodeState) (p : Phase) (k : SpaceNeed) (e : SpaceEvent) → is_stand (by_rule s p k e) ≡ false
not_rule s p k space.Enough = refl
not_rule s p k (space.Ask name mode) = refl
not_rule s p k space.LowerX = refl
not_rule s p k (space.Look lbn) = refl
not_rule s p k (space.Put lbn b) = not_put (slice_get s.run.writes s.run.made)
not_rule s p k space.LowerV = refl
not_rule s p k space.Return = refl
not_rule s p k (space.Short r) = refl

not_space : (s : NodeState) (clusters : ℕ) (number : Bool) → is_stand (by_space s clusters number) ≡ false
not_space s clusters number = by_test (serves s clusters number) where
  by_test : (b : Bool) → is_stand (cond b event.SpaceEnd (by_rule s (phase_begun s.run.phase) (space_need clusters number) (space_event (space_state s) (space_need clusters number)))) ≡ false
  by_test true = refl
  by_test false = not_rule s (phase_begun s.run.phase) (space_need clusters number) (space_event (space_state s) (space_need clusters number))

not_need : (s : NodeState) (d : Need) → is_stand (by_need s d) ≡ false
not_need s (need.Lock name mode) = refl
not_need s (need.Block name lbn) = refl
not_need s (need.Bare lbn) = refl
not_need s (need.Space clusters number) = not_space s clusters number
not_need s (need.Ready p) = refl

not_end : (x : Cmd) (r : Reply) (tried : Bool) (o : Option Ask) → is_stand (by_end x r tried o) ≡ false
not_end x r tried None = refl
not_end x r true (Some a) = refl
not_end x r false (Some a) = refl

not_write : (x : Cmd) (p : Plan) (tried : Bool) (o : Option PlanWrite) → is_stand (by_write x p tried o) ≡ false
not_write x p tried (Some v) = refl
not_write x p tried None = not_end x p.reply tried p.ask

not_plan : (x : Cmd) (s : NodeState) (o : Option Plan) → is_stand (by_plan x s o) ≡ false
not_plan x s None = not_need s (need_of x s.seen)
not_plan x s (Some p) = not_write x p s.tried (slice_get (writes_by p.ask s.tried p.writes) s.done)

not_command : (s : NodeState) (o : Option Cmd) → is_stand (by_command s o) ≡ false
not_command s None = refl
not_command s (Some x) = not_plan x s s.plan

not_turn : (s : NodeState) (b : Bool) → is_stand (by_turn s b) ≡ false
not_turn s true = not_rule s phase.Back (space_need 0 false) (back_event (space_state s))
not_turn s false = not_command s s.cmd

not_use : (w : Plain) (s : NodeState) (e : Event) → is_stand e ≡ false → is_stand (or_use w s e) ≡ false
not_use w s (event.Look name lbn) h = by_test (has_current w s name lbn) where
  by_test : (b : Bool) → is_stand (cond b (event.Use name lbn) (event.Look name lbn)) ≡ false
  by_test true = refl
  by_test false = refl
not_use w s (event.SpaceLook clusters number lbn) h = by_test (has_current w s V lbn) where
  by_test : (b : Bool) → is_stand (cond b (event.SpaceUse clusters number lbn) (event.SpaceLook clusters number lbn)) ≡ false
  by_test true = refl
  by_test false = refl
not_use w s event.Rest h = h
not_use w s event.Stand h = h
not_use w s event.Leave h = h
not_use w s (event.Lock name mode) h = h
not_use w s (event.Use name lbn) h = h
not_use w s (event.Fetch lbn) h = h
not_use w s (event.Claim p name mode) h = h
not_use w s (event.SpaceUse clusters number lbn) h = h
not_use w s (event.SpaceWrite v) h = h
not_use w s event.LowerV h = h
not_use w s event.LowerX h = h
not_use w s event.Return h = h
not_use w s event.SpaceEnd h = h
not_use w s (event.Plan p) h = h
not_use w s (event.Write v) h = h
not_use w s (event.Ask x a) h = h
not_use w s (event.Answer x r) h = h

-- ---- what it prepares leaves what it has asked for

record AsksSame (s p : NodeState) : Type 0 where
  asked : p.asked ≡ s.asked
  claims : p.claims ≡ s.claims

served_asks : (s : NodeState) → AsksSame s (served s)
served_asks s = by_cmd s.cmd s.plan where
  same : AsksSame s s
  same = record { asked = refl; claims = refl }

  by_test : (clusters : ℕ) (number b : Bool) → AsksSame s (cond b (serving s clusters number) s)
  by_test clusters number true = record { asked = refl; claims = refl }
  by_test clusters number false = same

  by_next : (d : Need) → AsksSame s (served_for s d)
  by_next (need.Lock name mode) = same
  by_next (need.Block name lbn) = same
  by_next (need.Bare lbn) = same
  by_next (need.Space clusters number) = by_test clusters number (serves s clusters number)
  by_next (need.Ready p) = same

  by_cmd : (o : Option Cmd) (plan : Option Plan) → AsksSame s (served_by s o plan)
  by_cmd None plan = same
  by_cmd (Some x) (Some p) = same
  by_cmd (Some x) None = by_next (need_of x s.seen)

begun_asks : (s : NodeState) (o next : Option Cmd) → AsksSame s (served (prepared_by s o next))
begun_asks s (Some x) next = served_asks s
begun_asks s None (Some x) = let r = served_asks (begun s x) in record { asked = r.asked; claims = r.claims }
begun_asks s None None = served_asks s

none_both : (b : Bool) → (b && false) ≡ false
none_both true = refl
none_both false = refl

-- of what stands, where it is neither out, nor gives back
parts : (out gives claims asked : Bool) → (out || (gives || (claims || (not gives && asked)))) ≡ false → (claims ≡ false) × (asked ≡ false)
parts true gives claims asked e = absurd (let f : true ≡ false = e in cc)
parts false true claims asked e = absurd (let f : true ≡ false = e in cc)
parts false false true asked e = absurd (let f : true ≡ false = e in cc)
parts false false false asked e = (refl, e)

pub stands_not : (w : Plain) (n : ℕ) (s : NodeState) → stands w n s ≡ false → stands w n (prepared w n s) ≡ false
stands_not w n s e = by_held (is_held_up w n s) refl where
  by_held : (b : Bool) → is_held_up w n s ≡ b → stands w n (prepared w n s) ≡ false
  by_held true h = ap (stands w n) (rests_prepared w n s h) ∙ e
  by_held false h =
      let free = parts (is_out s) (gives_back w n s) (waits_at w.locks n s.claims) (waits_at w.locks n s.asked) h in
      let r = begun_asks s s.cmd (next_command w.script n w.history) in
      let p : NodeState = served (prepared_by s s.cmd (next_command w.script n w.history)) in
      let is : prepared w n s ≡ p = ap (λ t. cond t s p) h in
      let a : waits_at w.locks n p.claims ≡ false = ap (waits_at w.locks n) r.claims ∙ free.0 in
      let b : waits_at w.locks n p.asked ≡ false = ap (waits_at w.locks n) r.asked ∙ free.1 in
      ap (stands w n) is ∙ ap (λ t. t || (not (gives_back w n p) && waits_at w.locks n p.asked)) a ∙ ap (λ t. not (gives_back w n p) && t) b ∙ none_both (not (gives_back w n p))

-- ---- so it moves

event_not : (a b : Bool) (e : Event) → b ≡ false → is_stand e ≡ false → is_stand (cond a event.Rest (cond b event.Stand e)) ≡ false
event_not true b e f h = refl
event_not false b e f h = ap (λ t. is_stand (cond t event.Stand e)) f ∙ h

pub goes_on : (w : Plain) (n : ℕ) (s : NodeState) → node_at w.nodes n ≡ Some s → stands w n s ≡ false → is_stand (next_event w n) ≡ false
goes_on w n s at e =
    let p : NodeState = prepared w n s in
    let u : Plain = with_node w n p in
    let is : next_event w n ≡ event_of u n (Some p) = ap (λ v. event_now v n) (readied_is w n s p at refl) ∙ ap (event_of u n) (at_here w.nodes n p s at) in
    ap is_stand is ∙ event_not (is_out p) (stands u n p) (or_use u p (by_turn p (gives_back u n p))) (stands_not w n s e) (not_use u p (by_turn p (gives_back u n p)) (not_turn p (gives_back u n p)))

pub moves_on : (w : Plain) (n : ℕ) (s : NodeState) → node_at w.nodes n ≡ Some s → is_out s ≡ false → stands w n s ≡ false → Moves w n
moves_on w n s at on e = (ap is_over_in at ∙ on, (λ f. absurd (let g : true ≡ false = sym (ap is_stand f) ∙ goes_on w n s at e in cc)))
