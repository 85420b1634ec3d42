-- For how many turns in rotation the nodes of a world have something to do.
use Rattle.std.specs.Prelude.{◌≡◌, ◌≤◌, ◌<◌, ◌+◌, ◌-◌, ◌*◌, ◌⊎◌, nat_lt, ℕ, suc, false, length, if◌then◌else◌}
use Rattle.core_state.specs.Worlds.{Plain}
use Rattle.core_state.specs.Goods.{Good, IsAccepted}
use Rattle.core_state.specs.Events.{is_over}
use Rattle.core_state.specs.Deaths.{after_step}
use Rattle.core_ends.specs.Moving.{Moves}
use Rattle.core_ends.specs.Measure.{command_steps, left}
use Rattle.core_state.specs.Ends.{AllOver}

-- how many of so many nodes come before node m, from this number on, and behind the last node from node 1 on
abbrev pub ahead : ℕ → ℕ → ℕ → ℕ
ahead count from m = if nat_lt m from then (count + m) - from else m - from

-- the turn of node n comes next: of the nodes that are not over, it is the first from this number on
pub record ComesNext (w : Plain) (from n : ℕ) : Type 0 where
  pub alive : is_over w n ≡ false
  pub first : (m : ℕ) → is_over w m ≡ false → ahead (length w.nodes) from n ≤ ahead (length w.nodes) from m

-- a node moves, and so many turns are more than enough for it and for what is left after it
pub record IsWithin (turns : ℕ) (w : Plain) (from : ℕ) : Type 0 where
  pub mover : ℕ
  pub moves : Moves w mover
  pub near : left w * length w.nodes + ahead (length w.nodes) from mover < turns

-- so many turns are enough for all that is left
abbrev pub IsEnough : ℕ → Plain → ℕ → Type 0
IsEnough turns w from = AllOver w ⊎ IsWithin turns w from

-- of a world, for each of its nodes, for each line and each node as many turns as are above the events of a command
abbrev pub turns_of : Plain → ℕ
turns_of w = (command_steps * (length w.script.lines + length w.nodes)) * length w.nodes

abbrev pub TurnsAreEnough : Type 0
TurnsAreEnough = (w : Plain) → Good w → IsAccepted w.opening → IsEnough (turns_of w) w 1

-- after a step of the node that comes next, one turn less is enough
abbrev pub StepsTakeOne : Type 0
StepsTakeOne = (turns : ℕ) (w : Plain) (from n : ℕ) → 1 ≤ from → from ≤ length w.nodes + 1 → Good w → ComesNext w from n → Good (after_step w n) → IsAccepted (after_step w n).opening
    → length (after_step w n).nodes ≡ length w.nodes → IsEnough (suc turns) w from → IsEnough turns (after_step w n) (n + 1)

-- where no turn is enough, all are over
abbrev pub NoneIsLeft : Type 0
NoneIsLeft = (w : Plain) (from : ℕ) → IsEnough 0 w from → AllOver w
