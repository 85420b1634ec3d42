-- Laws of walks.
use Rattle.plain_rules.specs.Own.{Whole}
use Rattle.std.specs.Prelude.{ℕ}
use Rattle.plain_cat.specs.declared.cat.Cat.{Cat}
use Rattle.core_state.specs.Worlds.{Plain}
use Rattle.core_state.specs.Goods.{Good}
use Rattle.core_state.specs.Deaths.{after_step}
use Rattle.run_engine.specs.Walks.{Stays}
use Rattle.core_state.specs.Ends.{AllOver}
use Rattle.run_engine.specs.Ended.{HasEnded}

-- once every node is over, each has given each of its commands
abbrev pub OverIsWhole : Type 0
OverIsWhole = (w : Plain) → Good w → AllOver w → Whole w.script w.history

-- and the drive spells the catalogue to which the history leads
abbrev pub OverIsSpelt : Type 0
OverIsSpelt = (w : Plain) → Good w → AllOver w → (c : Cat) × HasEnded w c

-- a turn, and a death in its place, leaves the script, the opening catalogue, the places of the volume's parts, and the number of nodes
abbrev pub TurnsLeaveTheRest : Type 0
TurnsLeaveTheRest = (w : Plain) (n : ℕ) → Stays w (after_step w n)
