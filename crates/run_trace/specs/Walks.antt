-- A walk that was made with its lines.
use Rattle.std.specs.Prelude.{◌≡◌, ◌++◌, ℕ, List}
use Rattle.core_state.specs.Worlds.{Plain}
use Rattle.run_engine.specs.Walks.{played, budget_of, IsRotatedIn}
use Rattle.run_trace.specs.Steps.{turns_text, walk_text}

-- turns in rotation, at most so many, have led from one world to the other, and their lines, the first with the number k, were written
pub record HasTurned (most k : ℕ) (old new : Plain) (was now : List ℕ) : Type 0 where
  pub walked : IsRotatedIn most old new
  pub written : now ≡ was ++ turns_text k walked.turns (record { world = old; from = 1 })

-- plays and turns in rotation, no more than a run makes, have led from one world to the other, and the lines of this walk were written
pub record HasWalked (plays : List ℕ) (old new : Plain) (was now : List ℕ) : Type 0 where
  pub walked : IsRotatedIn (budget_of old) (played plays old) new
  pub written : now ≡ was ++ walk_text plays walked.turns old
