-- Laws of runs that stop.
use Rattle.std.specs.Prelude.{◌≡◌, ℕ, true, false, List, Option, Some}
use Rattle.base_words.specs.Fields.{Block}
use Rattle.op_law.specs.Laws.{Lawful}
use Rattle.core_state.specs.Worlds.{Plain}
use Rattle.core_state.specs.Goods.{Good, HasOnly, IsAccepted}
use Rattle.core_state.specs.Images.{IsTorn}
use Rattle.core_state.specs.Events.{is_write, next_event}
use Rattle.core_state.specs.Deaths.{is_due, after_step}
use Rattle.run_engine.specs.Walks.{IsPartOfWalk, IsNextIn, IsBeforeWrite}
use Rattle.run_engine.specs.Torn.{CanStop, IsTornWorld, IsTornRun}

-- a run from a volume as it is mounted can stop wherever it is
abbrev pub RunsCanStop : Type 0
RunsCanStop = (start w : Plain) (plays : List ℕ) → IsAccepted start.opening → IsPartOfWalk start plays w → Good w → CanStop w

-- a world of which a write of node n failed can stop there, if its commands obey the law
abbrev pub TornWorldsCanStop : Type 0
TornWorldsCanStop = (w : Plain) (n : ℕ) (bs : List Block) (new : Option (List Block)) → IsAccepted w.opening → HasOnly Lawful w.script → Good w → is_due w n ≡ false → is_write (next_event w n) ≡ true
    → IsTorn (Some bs) new w.blocks (after_step w n).blocks → IsTornWorld w n new

-- a run of which a write failed can stop there, if its commands obey the law
abbrev pub TornRunsCanStop : Type 0
TornRunsCanStop = (start w : Plain) (plays : List ℕ) (bs : List Block) (new : Option (List Block)) → IsAccepted start.opening → HasOnly Lawful w.script → IsPartOfWalk start plays w → Good w
    → (before : IsBeforeWrite (IsNextIn start plays w) bs (Some bs) new w) → IsTornRun start plays w before.node new
