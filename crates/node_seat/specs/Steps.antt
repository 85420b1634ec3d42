-- Steps of nodes, one after the other.
use Rattle.std.specs.Prelude.{◌≡◌, ℕ, List, [], ◌∷◌}
use Rattle.core_state.specs.Worlds.{Plain, IsOfWorld}
use Rattle.core_state.specs.Deaths.{after_step}

-- the world after a step of each of these nodes, in this order: the node's turn, or the death that the script has in its place
abbrev pub stepped : List ℕ → Plain → Plain
stepped [] w = w
stepped (n ∷ ns) w = stepped ns (after_step w n)

-- each is a node of the world in which it makes its step
abbrev pub AreNodes : List ℕ → Plain → Type 0
AreNodes [] w = Unit {0}
AreNodes (n ∷ ns) w = IsOfWorld w n × AreNodes ns (after_step w n)

-- steps of these nodes, in this order, have led from one world to the other
pub record IsReached (start w : Plain) : Type 0 where
  pub nodes : List ℕ
  pub of_world : AreNodes nodes start
  pub at : w ≡ stepped nodes start
