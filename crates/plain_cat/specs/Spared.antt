-- A list with spare room.
use Rattle.std.specs.Prelude.{ℕ, List}

-- the items, and how many more go in without taking memory
pub record Spared (A : Type 0) : Type 0 where
  pub items : List A
  pub room : ℕ
