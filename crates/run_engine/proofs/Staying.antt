-- What no turn changes.
use Rattle.std.proofs.Common.{◌≡◌, ◌≤◌, ℕ, zero, suc, Bool, true, false, cond, List, [], ◌∷◌, Option, Some, None, take, refl, sym, subst, ◌∙◌}
use Rattle.core_state.specs.Worlds.{NodeState, Plain, IsOfWorld, node_at}
use Rattle.core_state.specs.Event.{Event}
use Rattle.core_state.specs.Event as event
use Rattle.core_state.specs.Events.{would_go, asked_by, happens, happen_at, readied_at, readied, next_event, after_turn, is_over}
use Rattle.core_state.specs.Deaths.{is_due, died_at, died, after_step}
use Rattle.core_state.proofs.Nodes.{length_node}
use Rattle.run_engine.specs.Walks.{after_play, played, next_from, Rotation, with_turn, after_next, rotation, IsPlayed, IsRotated, Stays}

pub nothing_stays : (w : Plain) → Stays w w
nothing_stays w = record { script = refl; opening = refl; geometry = refl; count = refl }

pub then_stays : (a b c : Plain) → Stays a b → Stays b c → Stays a c
then_stays a b c p q = record {
  script = q.script ∙ p.script;
  opening = q.opening ∙ p.opening;
  geometry = q.geometry ∙ p.geometry;
  count = q.count ∙ p.count;
}

event_stays : (w : Plain) (n : ℕ) (s : NodeState) (e : Event) → Stays w (happens w n s e)
event_stays w n s event.Rest = record { script = refl; opening = refl; geometry = refl; count = length_node w.nodes n _ }
event_stays w n s event.Stand = record { script = refl; opening = refl; geometry = refl; count = length_node w.nodes n _ }
event_stays w n s event.Leave = record { script = refl; opening = refl; geometry = refl; count = length_node w.nodes n _ }
event_stays w n s (event.Lock name mode) = record { script = refl; opening = refl; geometry = refl; count = length_node w.nodes n _ }
event_stays w n s (event.Look name lbn) = record { script = refl; opening = refl; geometry = refl; count = length_node w.nodes n _ }
event_stays w n s (event.Use name lbn) = record { script = refl; opening = refl; geometry = refl; count = length_node w.nodes n _ }
event_stays w n s (event.Fetch lbn) = record { script = refl; opening = refl; geometry = refl; count = length_node w.nodes n _ }
event_stays w n s (event.Claim p name mode) = record { script = refl; opening = refl; geometry = refl; count = length_node w.nodes n _ }
event_stays w n s (event.SpaceLook clusters number lbn) = record { script = refl; opening = refl; geometry = refl; count = length_node w.nodes n _ }
event_stays w n s (event.SpaceUse clusters number lbn) = record { script = refl; opening = refl; geometry = refl; count = length_node w.nodes n _ }
event_stays w n s event.LowerV = record { script = refl; opening = refl; geometry = refl; count = length_node w.nodes n _ }
event_stays w n s event.LowerX = record { script = refl; opening = refl; geometry = refl; count = length_node w.nodes n _ }
event_stays w n s event.Return = record { script = refl; opening = refl; geometry = refl; count = length_node w.nodes n _ }
event_stays w n s event.SpaceEnd = record { script = refl; opening = refl; geometry = refl; count = length_node w.nodes n _ }
event_stays w n s (event.SpaceWrite v) = record { script = refl; opening = refl; geometry = refl; count = length_node w.nodes n _ }
event_stays w n s (event.Plan p) = record { script = refl; opening = refl; geometry = refl; count = length_node w.nodes n _ }
event_stays w n s (event.Write v) = record { script = refl; opening = refl; geometry = refl; count = length_node w.nodes n _ }
event_stays w n s (event.Ask x a) = by_outcome (would_go w.locks n a) where
  by_outcome : (b : Bool) → Stays w (asked_by w n s x a b)
  by_outcome true = record { script = refl; opening = refl; geometry = refl; count = length_node w.nodes n _ }
  by_outcome false = record { script = refl; opening = refl; geometry = refl; count = length_node w.nodes n _ }
event_stays w n s (event.Answer x r) = record { script = refl; opening = refl; geometry = refl; count = length_node w.nodes n _ }

event_at_stays : (w : Plain) (n : ℕ) (o : Option NodeState) (e : Event) → Stays w (happen_at w n o e)
event_at_stays w n None e = nothing_stays w
event_at_stays w n (Some s) e = event_stays w n s e

-- nor does what comes before its event
readied_stays : (w : Plain) (n : ℕ) (o : Option NodeState) → Stays w (readied_at w n o)
readied_stays w n None = nothing_stays w
readied_stays w n (Some s) = record { script = refl; opening = refl; geometry = refl; count = length_node w.nodes n _ }

turn_stays : (w : Plain) (n : ℕ) → Stays w (after_turn w n)
turn_stays w n = then_stays w (readied w n) (after_turn w n) (readied_stays w n (node_at w.nodes n)) (event_at_stays (readied w n) n (node_at (readied w n).nodes n) (next_event w n))

died_stays : (w : Plain) (n : ℕ) (o : Option NodeState) → Stays w (died_at w n o)
died_stays w n None = nothing_stays w
died_stays w n (Some s) = record { script = refl; opening = refl; geometry = refl; count = length_node w.nodes n _ }

-- nor does a death
pub step_stays : (w : Plain) (n : ℕ) → Stays w (after_step w n)
step_stays w n = elim (is_due w n) as (λ b. Stays w (cond b (died w n) (after_turn w n))) [ true ↦ died_stays w n (node_at w.nodes n) | false ↦ turn_stays w n ]

-- ---- over plays and rotation

pub play_stays : (w : Plain) (n : ℕ) → Stays w (after_play w n)
unfolding after_play
play_stays w n = elim (is_over w n) as (λ b. Stays w (cond b w (after_step w n))) [ true ↦ nothing_stays w | false ↦ step_stays w n ]

pub plays_stay : (ns : List ℕ) (w : Plain) → Stays w (played ns w)
plays_stay [] w = nothing_stays w
plays_stay (n ∷ ns) w = then_stays w (after_play w n) (played ns (after_play w n)) (play_stays w n) (plays_stay ns (after_play w n))

with_turn_stays : (r : Rotation) (o : Option ℕ) → Stays r.world (with_turn r o).world
with_turn_stays r None = nothing_stays r.world
with_turn_stays r (Some n) = step_stays r.world n

next_stays : (r : Rotation) → Stays r.world (after_next r).world
unfolding after_next
next_stays r = with_turn_stays r (next_from r.world r.from)

pub rotation_stays : (k : ℕ) (r : Rotation) → Stays r.world (rotation k r).world
unfolding rotation
rotation_stays zero r = nothing_stays r.world
rotation_stays (suc k) r = then_stays r.world (rotation k r).world (after_next (rotation k r)).world (rotation_stays k r) (next_stays (rotation k r))

-- ---- over parts of a walk

pub played_stays : (old : Plain) (ns : List ℕ) (new : Plain) → IsPlayed old ns new → Stays old new
played_stays old ns new part = subst (λ v. Stays old v) (sym part.1) (plays_stay (take part.0 ns) old)

pub rotated_stays : (old new : Plain) → IsRotated old new → Stays old new
rotated_stays old new turns = subst (λ v. Stays old v) (sym turns.1) (rotation_stays turns.0 (record { world = old; from = 1 }))

pub walk_stays : (old mid new : Plain) (ns : List ℕ) → mid ≡ played ns old → IsRotated mid new → Stays old new
walk_stays old mid new ns at turns = then_stays old mid new (subst (λ v. Stays old v) (sym at) (plays_stay ns old)) (rotated_stays mid new turns)

-- a node of the world stays one
pub still_of_world : (a b : Plain) (n : ℕ) → Stays a b → IsOfWorld a n → IsOfWorld b n
still_of_world a b n stays of = record { from = of.from; to = subst (λ k. n ≤ k) (sym stays.count) of.to }
