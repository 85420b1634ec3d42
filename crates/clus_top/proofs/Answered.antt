-- A run adds answers to its history, and the deaths for which its script has kills; nothing is mended.
use Rattle.std.proofs.Common.{◌≡◌, ◌==◌, ◌++◌, not, ℕ, Bool, true, false, cond, List, [], ◌∷◌, Option, Some, None, refl}
use Rattle.std.specs.List.{list_any}
use Rattle.plain_cat.specs.declared.command.Cmd.{Cmd}
use Rattle.plain_cat.specs.declared.reply.Reply.{Reply}
use Rattle.plain_cat.specs.Spared.{Spared}
use Rattle.plain_cat.specs.declared.script.Kill.{Kill}
use Rattle.plain_cat.specs.declared.script.Script.{Script}
use Rattle.plain_cat.specs.declared.history.Stage.{Stage}
use Rattle.plain_cat.specs.declared.history.Entry.{Entry}
use Rattle.plain_cat.specs.declared.history.Entry.TheVariants.{Done, Died, Mended}
use Rattle.plain_rules.specs.Own.{Killed, is_mending}
use Rattle.core_state.specs.Worlds.{NodeState, Plain, node_at}
use Rattle.core_state.specs.Event.{Event}
use Rattle.core_state.specs.Event as event
use Rattle.core_state.specs.Deaths.{kills_at, is_due, died_at, died, after_step}
use Rattle.core_state.specs.Events.{would_go, asked_by, readied_at, readied, next_event, happens, happen_at, after_turn, is_over}
use Rattle.core_state.proofs.Kills.{any_kill}
use Rattle.std.proofs.lemmas.Bool.{and_parts}

-- nodes die only where the script kills them, and nothing is mended
abbrev IsOrderly : Script → List Entry → Type 0
IsOrderly s h = Killed s h × (list_any is_mending h ≡ false)

one_more : (s : Script) (h : List Entry) (n : ℕ) (x : Cmd) (r : Reply) → IsOrderly s h → IsOrderly s (h ++ Done n x r ∷ [])
unfolding is_mending
one_more s [] n x r orderly = ((tt, tt), refl)
one_more s (Done m y q ∷ es) n x r orderly =
    let more = one_more s es n x r (orderly.0.1, orderly.1) in
    ((tt, more.0), more.1)
one_more s (Died m st k ns ∷ es) n x r orderly =
    let more = one_more s es n x r (orderly.0.1, orderly.1) in
    ((orderly.0.0, more.0), more.1)
one_more s (Mended m ∷ es) n x r orderly = absurd (let f : true ≡ false = orderly.1 in cc)

dead_more : (s : Script) (h : List Entry) (n : ℕ) (stage : Stage) (clusters : ℕ) (numbers : Spared ℕ) → list_any (λ (k : Kill). k.node == n) s.kills ≡ true → IsOrderly s h → IsOrderly s (h ++ Died n stage clusters numbers ∷ [])
unfolding is_mending
dead_more s [] n stage clusters numbers kill orderly = ((kill, tt), refl)
dead_more s (Done m y q ∷ es) n stage clusters numbers kill orderly =
    let more = dead_more s es n stage clusters numbers kill (orderly.0.1, orderly.1) in
    ((tt, more.0), more.1)
dead_more s (Died m st k ns ∷ es) n stage clusters numbers kill orderly =
    let more = dead_more s es n stage clusters numbers kill (orderly.0.1, orderly.1) in
    ((orderly.0.0, more.0), more.1)
dead_more s (Mended m ∷ es) n stage clusters numbers kill orderly = absurd (let f : true ≡ false = orderly.1 in cc)

pub record IsAnswered (w : Plain) : Type 0 where
  pub orderly : IsOrderly w.script w.history

event_keeps : (w : Plain) (n : ℕ) (s : NodeState) (e : Event) → IsAnswered w → IsAnswered (happens w n s e)
event_keeps w n s event.Rest p = record { orderly = p.orderly }
event_keeps w n s event.Stand p = record { orderly = p.orderly }
event_keeps w n s event.Leave p = record { orderly = p.orderly }
event_keeps w n s (event.Lock name mode) p = record { orderly = p.orderly }
event_keeps w n s (event.Look name lbn) p = record { orderly = p.orderly }
event_keeps w n s (event.Use name lbn) p = record { orderly = p.orderly }
event_keeps w n s (event.Fetch lbn) p = record { orderly = p.orderly }
event_keeps w n s (event.Claim q name mode) p = record { orderly = p.orderly }
event_keeps w n s (event.SpaceLook clusters number lbn) p = record { orderly = p.orderly }
event_keeps w n s (event.SpaceUse clusters number lbn) p = record { orderly = p.orderly }
event_keeps w n s event.LowerV p = record { orderly = p.orderly }
event_keeps w n s event.LowerX p = record { orderly = p.orderly }
event_keeps w n s event.Return p = record { orderly = p.orderly }
event_keeps w n s event.SpaceEnd p = record { orderly = p.orderly }
event_keeps w n s (event.SpaceWrite v) p = record { orderly = p.orderly }
event_keeps w n s (event.Plan q) p = record { orderly = p.orderly }
event_keeps w n s (event.Write v) p = record { orderly = p.orderly }
event_keeps w n s (event.Ask x a) p = by_outcome (would_go w.locks n a) where
  by_outcome : (b : Bool) → IsAnswered (asked_by w n s x a b)
  by_outcome true = record { orderly = p.orderly }
  by_outcome false = record { orderly = one_more w.script w.history n x a.refused p.orderly }
event_keeps w n s (event.Answer x r) p = record { orderly = one_more w.script w.history n x r p.orderly }

at_keeps : (w : Plain) (n : ℕ) (o : Option NodeState) (e : Event) → IsAnswered w → IsAnswered (happen_at w n o e)
at_keeps w n None e p = p
at_keeps w n (Some s) e p = event_keeps w n s e p

readied_keeps : (w : Plain) (n : ℕ) (o : Option NodeState) → IsAnswered w → IsAnswered (readied_at w n o)
readied_keeps w n None p = p
readied_keeps w n (Some s) p = record { orderly = p.orderly }

turn_keeps : (w : Plain) (n : ℕ) → IsAnswered w → IsAnswered (after_turn w n)
turn_keeps w n p = at_keeps (readied w n) n (node_at (readied w n).nodes n) (next_event w n) (readied_keeps w n (node_at w.nodes n) p)

-- ---- a death comes where the script has a kill for the node

died_keeps : (w : Plain) (n : ℕ) (o : Option NodeState) → kills_at w n o ≡ true → IsAnswered w → IsAnswered (died_at w n o)
died_keeps w n None e p = p
died_keeps w n (Some s) e p = record { orderly = dead_more w.script w.history n _ _ _ (any_kill w n s w.script.kills e) p.orderly }

pub step_keeps : (w : Plain) (n : ℕ) → IsAnswered w → IsAnswered (after_step w n)
step_keeps w n p = by_due (is_due w n) refl where
  by_due : (b : Bool) → is_due w n ≡ b → IsAnswered (cond b (died w n) (after_turn w n))
  by_due true e = died_keeps w n (node_at w.nodes n) (and_parts (not (is_over w n)) (kills_at w n (node_at w.nodes n)) e).1 p
  by_due false e = turn_keeps w n p
