-- What is kept of a world between two steps of seats, whatever their order.
use Rattle.std.specs.Prelude.{◌≡◌, ◌≤◌, ◌⊎◌, ℕ, Bool, false, true, List, Option, Some, None, is_some, Result, Ok, Err}
use Rattle.std.specs.List.{list_any}
use Rattle.base_words.specs.Fields.{Block}
use Rattle.base_words.specs.Faults.{Rose}
use Rattle.plain_cat.specs.declared.history.Entry.{Entry}
use Rattle.plain_cat.specs.declared.script.Script.{Script}
use Rattle.plain_rules.specs.Own.{Killed, is_mending}
use Rattle.core_state.specs.Worlds.{Plain, IsOfWorld}
use Rattle.core_state.specs.Deaths.{is_due, after_step}
use Rattle.core_state.specs.Events.{is_write, next_event}
use Rattle.core_step.specs.declared.turns.TurnFault.{TurnFault}
use Rattle.core_step.specs.declared.turns.TurnFault.TheVariants.{ImageFault}
use Rattle.node_seat.specs.declared.views.Start.{Start}
use Rattle.node_seat.specs.Steps.{IsReached}

-- what a yard is opened with, where it takes this world, whose image has counted so many faults and tells this
abbrev pub start_of : Plain → ℕ → Option (List Block) → Start
start_of w faults told = record { world = w; count = faults; tells = is_some told }

-- what an image tells whose blocks are these, if it tells any
abbrev pub telling : Bool → List Block → Option (List Block)
telling true bs = Some bs
telling false bs = None

-- nodes died only where the script kills them, and nothing was mended
pub record IsOrderly (script : Script) (h : List Entry) : Type 0 where
  pub killed : Killed script h
  pub unmended : list_any is_mending h ≡ false

-- A write of the image failed, which is the next event of a node of the world, and in place of which no death comes. If the image tells
-- its blocks, it has the drive's, or those that this write would leave: one block may be ahead.
pub record IsAtFailedWrite (tells : Bool) (told : Option (List Block)) (w : Plain) : Type 0 where
  pub node : ℕ
  pub of_world : IsOfWorld w node
  pub turn : is_due w node ≡ false
  pub write : is_write (next_event w node) ≡ true
  pub image : (told ≡ telling tells w.blocks) ⊎ (told ≡ telling tells (after_step w node).blocks)

-- The image has the drive's blocks, if it tells any. If a write of it has failed, one block may be ahead.
abbrev pub HasImage : Bool → Option (List Block) → Plain → Option TurnFault → Type 0
HasImage tells told w (Some ImageFault) = IsAtFailedWrite tells told w
HasImage tells told w other = told ≡ telling tells w.blocks

-- A world with this stop mark is one of this start: steps of its nodes have led to it from the world with which the yard was opened, and its
-- image has counted no fewer faults. It counted one since then if the mark says that the image failed.
pub record IsKept (start : Start) (w : Plain) (faults : ℕ) (told : Option (List Block)) (mark : Option TurnFault) : Type 0 where
  pub reached : IsReached start.world w
  pub later : start.count ≤ faults
  pub cause : mark ≡ Some ImageFault → Rose start.count faults
  pub image : HasImage start.tells told w mark

-- the mark after an event
abbrev pub mark_of : {A : Type 0} → Result A TurnFault → Option TurnFault
mark_of (Ok a) = None
mark_of (Err fault) = Some fault
