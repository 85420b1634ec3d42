-- The channels by a node's answers, and by the catalogue.
use Rattle.std.specs.Prelude.{◌≡◌, ◌≤◌, ◌-◌, ℕ, Bool, false, List, [], ◌∷◌, is_some, slice_index_or}
use Rattle.plain_cat.specs.declared.history.Entry.{Entry}
use Rattle.plain_cat.specs.declared.history.Entry.TheVariants.{Done, Died, Mended}
use Rattle.plain_cat.specs.declared.cat.Cat.{Cat}
use Rattle.plain_rules.specs.Lookups.{channel_at}
use Rattle.plain_rules.specs.Own.{NodePast}
use Rattle.plain_histories.specs.Opens.{IsChannel}

-- an entry of a node from 1 to 8, and no mending
abbrev pub IsOfNode : Entry → Type 0
IsOfNode (Done n x r) = (1 ≤ n) × (n ≤ 8)
IsOfNode (Died n s k l) = (1 ≤ n) × (n ≤ 8)
IsOfNode (Mended m) = ⊥

-- a history of nodes from 1 to 8, without a mending
abbrev pub AreOfNodes : List Entry → Type 0
AreOfNodes [] = Unit {0}
AreOfNodes (e ∷ es) = IsOfNode e × AreOfNodes es

-- whether a channel is open by a node's answers; channels count from 1
abbrev pub is_open_by : NodePast → ℕ → Bool
is_open_by p chan = slice_index_or p.channels (chan - 1) false

-- each channel of the node is open exactly where the node's answers say so
abbrev pub AreOpenBy : Cat → ℕ → NodePast → Type 0
AreOpenBy c node p = (chan : ℕ) → IsChannel node chan → is_some (channel_at c node chan) ≡ is_open_by p chan
