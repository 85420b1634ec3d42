-- A sink that waits for a sync.
use Rattle.std.specs.Prelude.{ℕ, Bool, Option}

-- the sink below, the file of which a sync is due, whether a sync has failed, and how many calls failed
pub record Guarded (O F : Type 0) : Type 0 where
  pub out : O
  pub due : Option F
  pub is_lost : Bool
  pub faults : ℕ
