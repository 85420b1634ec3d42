-- The entries of a directory's blocks, gone through as they stand there. One that was met before is passed over.
use Rattle.std.specs.Prelude.{ℕ, Bool, true, List, [], ◌∷◌, Option, Some, None, IsSome, option_copied, option_map, unwrap_or, if◌then◌else◌}
use Rattle.std.specs.Borrow.{Bor}
use Rattle.base_words.specs.Fields.{Block}
pub use Rattle.base_words.specs.Fields.{blocks_alone}
use Rattle.fx_dir.specs.declared.RawEnt.{RawEnt}
use Rattle.fx_dir.specs.Entries.{before}
use Rattle.fx_dir.specs.Moves.{key}
use Rattle.fx_dir.specs.Records.{block_entries}
use Rattle.fx_dir.specs.declared.room.Walk.{Walk}
use Rattle.fx_dir.specs.Filling.{Tried, tried_of, taken_in}

-- what was tried, and the name and version of the last entry that was met
pub record Walked : Type 0 where
  pub tried : Tried
  pub met : Option RawEnt

abbrev pub last_met : Option (Bor (List ℕ)) → ℕ → Option RawEnt
last_met last ver = option_map (λ n. key n ver) (option_copied last)

abbrev pub walked_of : Walk → Walked
walked_of w = record { tried = tried_of w.trial; met = last_met w.last w.last_ver }

-- an entry comes behind the last that was met
abbrev pub is_behind : Option RawEnt → RawEnt → Bool
is_behind None x = true
is_behind (Some m) x = before m x

-- one entry more
unfoldable pub taken_on : RawEnt → Walked → RawEnt → Walked
taken_on e w x = if is_behind w.met x then record { tried = taken_in e w.tried x; met = Some (key x.name x.ver) } else w

-- these entries more
abbrev pub walked : RawEnt → Walked → List RawEnt → Walked
walked e w [] = w
walked e w (x ∷ xs) = walked e (taken_on e w x) xs

-- those that are read
abbrev pub read_in : Option (List RawEnt) → List RawEnt
read_in o = unwrap_or o []

-- a block is a list of records in order
abbrev pub IsBlockRead : Block → Type 0
IsBlockRead b = IsSome (block_entries b)
