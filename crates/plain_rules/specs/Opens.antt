-- What the channels have open, and whether modes go together.
use Rattle.std.specs.Prelude.{Bool, None, Option, Some, false, not, List, slice_set, ◌==◌, if◌then◌else◌, ℕ, nat_lt, true}
use Rattle.plain_cat.specs.declared.cat.File.{File}
use Rattle.plain_cat.specs.declared.cat.Cat.{Cat}
use Rattle.plain_cat.specs.declared.cat.Open.{Open}
use Rattle.plain_rules.specs.Lookups.{place}
use Rattle.plain_cat.specs.declared.mode.Mode.{Mode}
use Rattle.plain_rules.specs.Answers.{conflicts}
use Rattle.std.specs.List.{list_any}
use Rattle.plain_cat.specs.Modes.{rank}

abbrev pub is_plain_file : Option File → Bool
is_plain_file None = false
is_plain_file (Some f) = not f.dir

-- what the other channels have open: all but this one of the node, where it is a channel
abbrev pub others_open : Cat → ℕ → ℕ → List (Option Open)
others_open c node chan = if chan == 0 then c.opens else slice_set c.opens (place node chan) None

-- a mode goes with all other opens of a file
abbrev pub goes_with : Cat → ℕ → ℕ → ℕ → Mode → Bool
goes_with c node chan file mode = not (list_any (conflicts file mode) (others_open c node chan))

-- a channel with a file open has it so in CR or more
abbrev pub is_held_open : Option Open → Bool
is_held_open None = true
is_held_open (Some o) = nat_lt 0 (rank o.mode)
