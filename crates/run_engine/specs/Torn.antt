-- What a run leaves that stops.
use Rattle.std.specs.Prelude.{◌≡◌, ◌⊎◌, ℕ, List, Option, Some}
use Rattle.base_words.specs.Fields.{Block}
use Rattle.plain_cat.specs.declared.cat.Cat.{Cat}
use Rattle.core_state.specs.Worlds.{Plain}
use Rattle.core_state.specs.Goods.{Good}
use Rattle.core_state.specs.Deaths.{after_step}
use Rattle.run_engine.specs.Halting.{IsHalted}
use Rattle.run_engine.specs.Mending.{MendsAs}
use Rattle.run_engine.specs.Walks.{IsPartOfWalk}

-- A world that stops, each node that lives dying, leaves a catalogue: its history, with those deaths, replays to it. Its drive mends as this
-- catalogue does.
pub record CanStop (w : Plain) : Type 0 where
  pub left : Cat
  pub halted : IsHalted w left
  pub mends : MendsAs w.blocks left

-- wherever this walk stops, its world can stop
abbrev pub WalkCanStop : Plain → List ℕ → Type 0
WalkCanStop start plays = (w : Plain) → IsPartOfWalk start plays w → CanStop w

-- A write of node n failed, in its turn in the world w. The image has the drive of a world that keeps the rules: that of w, or, if the
-- write landed, that of the one to which the turn leads. A write answers nothing, so this world has the history of w. It can stop there.
pub record IsTornWorld (w : Plain) (n : ℕ) (new : Option (List Block)) : Type 0 where
  pub world : Plain
  pub landed : (world ≡ w) ⊎ (world ≡ after_step w n)
  pub image : new ≡ Some world.blocks
  pub good : Good world
  pub history : world.history ≡ w.history
  pub stop : CanStop world

-- w is a world of a walk, and so is that one
pub record IsTornRun (start : Plain) (plays : List ℕ) (w : Plain) (n : ℕ) (new : Option (List Block)) : Type 0 where
  pub torn : IsTornWorld w n new
  pub walked : IsPartOfWalk start plays torn.world
