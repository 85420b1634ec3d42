-- Which nodes of a world move.
use Rattle.std.specs.Prelude.{◌≡◌, ◌≢◌, ℕ, false}
use Rattle.core_state.specs.Worlds.{Plain}
use Rattle.core_state.specs.Goods.{Good, IsAccepted}
use Rattle.core_state.specs.Event.{Stand}
use Rattle.core_state.specs.Events.{next_event, is_over}

-- a node moves: it is not over, and its next event is another than to wait
abbrev pub Moves : Plain → ℕ → Type 0
Moves w n = (is_over w n ≡ false) × (next_event w n ≢ Stand)

-- where some node is not over, some node moves
abbrev pub SomebodyMoves : Type 0
SomebodyMoves = (w : Plain) (n : ℕ) → Good w → IsAccepted w.opening → is_over w n ≡ false → (m : ℕ) × Moves w m
