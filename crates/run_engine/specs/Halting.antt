-- A world that stops, with each node that lives dying, and the catalogue that is left.
use Rattle.std.specs.Prelude.{◌+◌, ◌++◌, ℕ, Bool, true, false, List, [], ◌∷◌}
use Rattle.plain_cat.specs.declared.cat.Cat.{Cat}
use Rattle.plain_cat.specs.declared.history.Entry.{Entry}
use Rattle.plain_rules.specs.Replaying.{Replays}
use Rattle.vol_spell.specs.Owners.{Owners}
use Rattle.vol_spell.specs.Spelling.{Spells}
use Rattle.vol_mends.specs.Weak.{NoOuts}
use Rattle.core_state.specs.Worlds.{NodeState, Plain}
use Rattle.core_state.specs.Events.{is_out}
use Rattle.core_state.specs.Deaths.{death_of}

-- the entry of the death of node n, and nothing where it has left or is dead
abbrev pub death_if : Bool → ℕ → NodeState → List Entry
death_if true n s = []
death_if false n s = death_of n s ∷ []

-- the deaths of these nodes, of which the first has the number n, in order of their numbers
abbrev pub deaths_from : ℕ → List NodeState → List Entry
deaths_from n [] = []
deaths_from n (s ∷ ss) = death_if (is_out s) n s ++ deaths_from (n + 1) ss

-- The history of a world that stops: behind the answers, the death of each node that lives. An entry tells the stage of the node's
-- command, which is that of its writes done, and what the node has outside files and bitmaps.
abbrev pub history_at_stop : Plain → List Entry
history_at_stop w = w.history ++ deaths_from 1 w.nodes

-- A world that stops leaves the catalogue c: its history, with those deaths, replays to it, and the drive spells it, with nothing
-- outside at any node.
pub record IsHalted (w : Plain) (c : Cat) : Type 0 where
  pub replayed : Replays w.opening w.script (history_at_stop w) c
  pub own : Owners
  pub spelt : Spells w.geometry w.blocks own c
  pub outs : NoOuts own
