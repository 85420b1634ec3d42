-- A script: the number of nodes, and the events.
use Rattle.std.specs.Prelude.{ℕ, List}
use Rattle.dlm_core.specs.declared.events.Event.{Event}

pub record Play : Type 0 where
  pub nodes : ℕ
  pub events : List Event
