-- What preparing for an event leaves of a node, and what the event says of it.
use Rattle.std.proofs.Common.{◌≡◌, ℕ, Bool, true, false, cond, List, Option, Some, None, slice_get, refl, ap, ◌∙◌}
use Rattle.std.specs.Prelude.{◌||◌, ◌&&◌, not}
use Rattle.lock_db.specs.declared.name.LockName.{LockName}
use Rattle.lock_db.specs.declared.name.LockName.TheVariants.{V}
use Rattle.plain_cat.specs.declared.command.Cmd.{Cmd}
use Rattle.plain_cat.specs.declared.reply.Reply.{Reply}
use Rattle.plain_rules.specs.Own.{next_command}
use Rattle.node_locks.specs.Held.{waits_at}
use Rattle.op_law.specs.declared.need.Need.{Need}
use Rattle.op_law.specs.declared.need.Need.TheVariants as need
use Rattle.op_law.specs.declared.need.Plan.{Plan}
use Rattle.op_law.specs.declared.need.PlanWrite.{PlanWrite}
use Rattle.op_law.specs.declared.need.Ask.{Ask as PlanAsk}
use Rattle.op_law.specs.Needs.{need_of}
use Rattle.core_space.specs.declared.event.SpaceEvent.{SpaceEvent}
use Rattle.core_space.specs.declared.event.SpaceEvent.TheVariants as space
use Rattle.core_space.specs.declared.run.Phase.{Phase}
use Rattle.core_space.specs.declared.run.Phase.TheVariants as phase
use Rattle.core_space.specs.declared.run.SpaceNeed.{SpaceNeed}
use Rattle.core_space.specs.Rule.{space_event, back_event}
use Rattle.core_state.specs.Worlds.{NodeState, Plain}
use Rattle.core_state.specs.Asks.{writes_by}
use Rattle.core_state.specs.Event.{Event}
use Rattle.core_state.specs.Event as event
use Rattle.core_state.specs.Events.{space_need, space_state, phase_begun, serves, by_rule, by_put, by_space, by_need, by_end, by_write, by_plan, by_command, by_turn, gives_back, stands, event_of, is_out, serving, served_for, served_by, served, is_held_up, prepared, prepared_by, has_current, or_use}
use Rattle.run_trace.specs.Reads.{plan_writes}
use Rattle.run_trace.proofs.Growing.{get_taken}

-- ---- what preparing leaves

pub record Alike (s p : NodeState) : Type 0 where
  pub asked : p.asked ≡ s.asked
  pub claims : p.claims ≡ s.claims
  pub blocks : p.seen.blocks ≡ s.seen.blocks
  pub done : p.done ≡ s.done
  pub over : p.over ≡ s.over

same : (s : NodeState) → Alike s s
same s = record { asked = refl; claims = refl; blocks = refl; done = refl; over = refl }

on : (s p r : NodeState) → Alike s p → Alike p r → Alike s r
on s p r a b = record { asked = b.asked ∙ a.asked; claims = b.claims ∙ a.claims; blocks = b.blocks ∙ a.blocks; done = b.done ∙ a.done; over = b.over ∙ a.over }

begun_alike : (s : NodeState) (o next : Option Cmd) → Alike s (prepared_by s o next)
begun_alike s (Some x) next = same s
begun_alike s None None = same s
begun_alike s None (Some x) = record { asked = refl; claims = refl; blocks = refl; done = refl; over = refl }

given_alike : (s : NodeState) (k : ℕ) (number b : Bool) → Alike s (cond b (serving s k number) s)
given_alike s k number true = record { asked = refl; claims = refl; blocks = refl; done = refl; over = refl }
given_alike s k number false = same s

needed_alike : (s : NodeState) (next : Need) → Alike s (served_for s next)
needed_alike s (need.Lock name mode) = same s
needed_alike s (need.Block name lbn) = same s
needed_alike s (need.Bare lbn) = same s
needed_alike s (need.Space k number) = given_alike s k number (serves s k number)
needed_alike s (need.Ready p) = same s

served_alike : (s : NodeState) (o : Option Cmd) (plan : Option Plan) → Alike s (served_by s o plan)
served_alike s (Some x) None = needed_alike s (need_of x s.seen)
served_alike s (Some x) (Some p) = same s
served_alike s None plan = same s

pub prepared_alike : (w : Plain) (n : ℕ) (s : NodeState) → Alike s (prepared w n s)
prepared_alike w n s = by (is_held_up w n s) where
  r : NodeState
  r = prepared_by s s.cmd (next_command w.script n w.history)

  by : (b : Bool) → Alike s (cond b s (served r))
  by true = same s
  by false = on s r (served r) (begun_alike s s.cmd (next_command w.script n w.history)) (served_alike r r.cmd r.plan)

-- ---- what an event says of its node

-- its plan has this ask
pub record AsksBy (s : NodeState) (a : PlanAsk) : Type 0 where
  pub plan : Plan
  pub is : s.plan ≡ Some plan
  pub ask : plan.ask ≡ Some a

abbrev pub Fits : Plain → ℕ → NodeState → Event → Type 0
Fits w n s (event.Claim p name mode) = waits_at w.locks n s.claims ≡ false
Fits w n s (event.SpaceWrite v) = slice_get s.run.writes s.run.made ≡ Some v
Fits w n s (event.Write v) = slice_get (plan_writes s.plan) s.done ≡ Some v
Fits w n s (event.Ask x a) = (s.cmd ≡ Some x) × AsksBy s a
Fits w n s other = Unit {0}

module _ (w : Plain) (n : ℕ) (s : NodeState) where
  put_fits : (o : Option PlanWrite) → slice_get s.run.writes s.run.made ≡ o → Fits w n s (by_put o)
  put_fits (Some v) e = e
  put_fits None e = tt

  rule_fits : waits_at w.locks n s.claims ≡ false → (p : Phase) (need : SpaceNeed) (e : SpaceEvent) → Fits w n s (by_rule s p need e)
  rule_fits still p need space.Enough = tt
  rule_fits still p need (space.Ask name mode) = still
  rule_fits still p need space.LowerX = tt
  rule_fits still p need (space.Look lbn) = tt
  rule_fits still p need (space.Put lbn b) = put_fits (slice_get s.run.writes s.run.made) refl
  rule_fits still p need space.LowerV = tt
  rule_fits still p need space.Return = tt
  rule_fits still p need (space.Short r) = tt

  space_fits : waits_at w.locks n s.claims ≡ false → (k : ℕ) (number : Bool) → Fits w n s (by_space s k number)
  space_fits still k number = by (serves s k number) where
    by : (b : Bool) → Fits w n s (cond b event.SpaceEnd (by_rule s (phase_begun s.run.phase) (space_need k number) (space_event (space_state s) (space_need k number))))
    by true = tt
    by false = rule_fits still (phase_begun s.run.phase) (space_need k number) (space_event (space_state s) (space_need k number))

  need_fits : waits_at w.locks n s.claims ≡ false → (d : Need) → Fits w n s (by_need s d)
  need_fits still (need.Lock name mode) = tt
  need_fits still (need.Block name lbn) = tt
  need_fits still (need.Bare lbn) = tt
  need_fits still (need.Space k number) = space_fits still k number
  need_fits still (need.Ready p) = tt

  end_fits : (x : Cmd) → s.cmd ≡ Some x → (p : Plan) → s.plan ≡ Some p → (r : Reply) (tried : Bool) (o : Option PlanAsk) → p.ask ≡ o → Fits w n s (by_end x r tried o)
  end_fits x cmd p is r tried None e = tt
  end_fits x cmd p is r true (Some a) e = tt
  end_fits x cmd p is r false (Some a) e = (cmd, record { plan = p; is = is; ask = e })

  all_writes : (o : Option PlanAsk) (tried : Bool) (ws : List PlanWrite) (k : ℕ) (v : PlanWrite) → slice_get (writes_by o tried ws) k ≡ Some v → slice_get ws k ≡ Some v
  all_writes None tried ws k v e = e
  all_writes (Some a) true ws k v e = e
  all_writes (Some a) false ws k v e = get_taken a.at ws k v e

  write_fits : (x : Cmd) → s.cmd ≡ Some x → (p : Plan) → s.plan ≡ Some p → (o : Option PlanWrite) → slice_get (writes_by p.ask s.tried p.writes) s.done ≡ o → Fits w n s (by_write x p s.tried o)
  write_fits x cmd p is (Some v) e = ap (λ q. slice_get (plan_writes q) s.done) is ∙ all_writes p.ask s.tried p.writes s.done v e
  write_fits x cmd p is None e = end_fits x cmd p is p.reply s.tried p.ask refl

  plan_fits : waits_at w.locks n s.claims ≡ false → (x : Cmd) → s.cmd ≡ Some x → (o : Option Plan) → s.plan ≡ o → Fits w n s (by_plan x s o)
  plan_fits still x cmd None is = need_fits still (need_of x s.seen)
  plan_fits still x cmd (Some p) is = write_fits x cmd p is (slice_get (writes_by p.ask s.tried p.writes) s.done) refl

  command_fits : waits_at w.locks n s.claims ≡ false → (o : Option Cmd) → s.cmd ≡ o → Fits w n s (by_command s o)
  command_fits still None cmd = tt
  command_fits still (Some x) cmd = plan_fits still x cmd s.plan refl

  turn_fits : waits_at w.locks n s.claims ≡ false → (gives : Bool) → Fits w n s (by_turn s gives)
  turn_fits still true = rule_fits still phase.Back (space_need 0 false) (back_event (space_state s))
  turn_fits still false = command_fits still s.cmd refl

  look_fits : (b : Bool) (name : LockName) (lbn : ℕ) → Fits w n s (cond b (event.Use name lbn) (event.Look name lbn))
  look_fits true name lbn = tt
  look_fits false name lbn = tt

  space_look_fits : (b : Bool) (k : ℕ) (c : Bool) (lbn : ℕ) → Fits w n s (cond b (event.SpaceUse k c lbn) (event.SpaceLook k c lbn))
  space_look_fits true k c lbn = tt
  space_look_fits false k c lbn = tt

  use_fits : (e : Event) → Fits w n s e → Fits w n s (or_use w s e)
  use_fits event.Rest h = h
  use_fits event.Stand h = h
  use_fits event.Leave h = h
  use_fits (event.Lock name mode) h = h
  use_fits (event.Look name lbn) h = look_fits (has_current w s name lbn) name lbn
  use_fits (event.Use name lbn) h = h
  use_fits (event.Fetch lbn) h = h
  use_fits (event.Claim p name mode) h = h
  use_fits (event.SpaceLook k c lbn) h = space_look_fits (has_current w s V lbn) k c lbn
  use_fits (event.SpaceUse k c lbn) h = h
  use_fits (event.SpaceWrite v) h = h
  use_fits event.LowerV h = h
  use_fits event.LowerX h = h
  use_fits event.Return h = h
  use_fits event.SpaceEnd h = h
  use_fits (event.Plan p) h = h
  use_fits (event.Write v) h = h
  use_fits (event.Ask x a) h = h
  use_fits (event.Answer x r) h = h

  not_first : (a b : Bool) → (a || b) ≡ false → a ≡ false
  not_first true b e = e
  not_first false b e = refl

  pub event_fits : Fits w n s (event_of w n (Some s))
  event_fits = by (is_out s) (stands w n s) refl where
    by : (out held : Bool) → stands w n s ≡ held → Fits w n s (cond out event.Rest (cond held event.Stand (or_use w s (by_turn s (gives_back w n s)))))
    by true held e = tt
    by false true e = tt
    by false false e = use_fits (by_turn s (gives_back w n s)) (turn_fits (not_first (waits_at w.locks n s.claims) (not (gives_back w n s) && waits_at w.locks n s.asked) e) (gives_back w n s))
