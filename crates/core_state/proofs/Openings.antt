-- The opening catalogue stays that of an accepted volume: no turn changes it.
use Rattle.std.proofs.Common.{◌≡◌, ℕ, Bool, true, false, Option, Some, None, refl, sym, subst, ◌∙◌}
use Rattle.core_state.specs.Worlds.{NodeState, Plain, node_at}
use Rattle.core_state.specs.Goods.{IsAccepted}
use Rattle.core_state.specs.Event.{Event}
use Rattle.core_state.specs.Event as event
use Rattle.core_state.specs.Events.{would_go, asked_by, happens, happen_at, event_now, readied_at, readied, after_turn}

opening_stays : (w : Plain) (n : ℕ) (s : NodeState) (e : Event) → (happens w n s e).opening ≡ w.opening
opening_stays w n s (event.Ask x a) = by_outcome (would_go w.locks n a) where
  by_outcome : (b : Bool) → (asked_by w n s x a b).opening ≡ w.opening
  by_outcome true = refl
  by_outcome false = refl
opening_stays w n s other = refl

happen_stays : (w : Plain) (n : ℕ) (o : Option NodeState) (e : Event) → (happen_at w n o e).opening ≡ w.opening
happen_stays w n None e = refl
happen_stays w n (Some s) e = opening_stays w n s e

readied_stays : (w : Plain) (n : ℕ) (o : Option NodeState) → (readied_at w n o).opening ≡ w.opening
readied_stays w n None = refl
readied_stays w n (Some s) = refl

pub opening_after : (w : Plain) (n : ℕ) → (after_turn w n).opening ≡ w.opening
opening_after w n = happen_stays (readied w n) n (node_at (readied w n).nodes n) (event_now (readied w n) n) ∙ readied_stays w n (node_at w.nodes n)

pub accepted_after : (w : Plain) (n : ℕ) → IsAccepted w.opening → IsAccepted (after_turn w n).opening
accepted_after w n accepted = subst IsAccepted (sym (opening_after w n)) accepted
