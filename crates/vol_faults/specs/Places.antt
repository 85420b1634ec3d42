-- Entries where they stand, and the first entry of each file.
use Rattle.std.specs.Prelude.{◌≡◌, ◌≤◌, ◌-◌, ◌&&◌, nat_lt, nat_le, ℕ, Bool, false, List, [], ◌∷◌, Option, Some, None, is_some, is_none, length, slice_index_or, if◌then◌else◌}
use Rattle.plain_cat.specs.declared.ids.Fid.{Fid}
use Rattle.plain_cat.specs.declared.cat.Cat.{Cat}
use Rattle.plain_cat.specs.declared.cat.File.{File}
use Rattle.plain_rules.specs.declared.places.Place.{Place}
use Rattle.plain_rules.specs.Lookups.{file_at, in_use}
use Rattle.plain_rules.specs.Mending.{same_fid, same_place, is_own}
use Rattle.vol_faults.specs.declared.places.Spot.{Spot}

-- the place of an entry
abbrev pub place_of : Spot → Place
place_of s = record { dir = s.dir; entry = s.entry.now }

-- the first of these entries that names a file
abbrev pub first_of : Fid → List Place → Option Place
first_of fid [] = None
first_of fid (p ∷ ps) = if same_fid p.entry.fid fid then Some p else first_of fid ps

-- the first of these entries that names the file of a number, none where the number has no file
abbrev pub first_in : List Place → ℕ → Option File → Option Place
first_in ps n None = None
first_in ps n (Some f) = first_of (record { num = n; seq = f.seq }) ps

-- the place of an entry, where there is one
abbrev pub place_in : Option Spot → Option Place
place_in None = None
place_in (Some s) = Some (place_of s)

-- what a table has for a file number
abbrev pub first_at : List (Option Spot) → ℕ → Option Spot
first_at table n = slice_index_or table (n - 1) None

-- a table has, for each file number of a catalogue, the first of these entries that names its file
pub record AreFirsts (c : Cat) (ps : List Place) (table : List (Option Spot)) : Type 0 where
  pub long : length table ≡ length c.files
  pub each : (n : ℕ) → 1 ≤ n → n ≤ length table → place_in (first_at table n) ≡ first_in ps n (file_at c n)

-- an entry is this one
abbrev pub is_there : Place → Option Place → Bool
is_there p None = false
is_there p (Some q) = same_place q p

-- an entry names a file in use of which the table has no entry yet
abbrev pub is_new : Cat → List (Option Spot) → Place → Bool
is_new c table p = is_some (in_use c p.entry.fid) && (nat_lt (p.entry.fid.num - 1) (length table) && is_none (first_at table p.entry.fid.num))

-- an entry is the one that its file keeps: of a system file that of its own name, of another file the first one
abbrev pub is_kept : List (Option Spot) → Place → Bool
is_kept table p = if nat_le p.entry.fid.num 11 then is_own p else is_there p (place_in (first_at table p.entry.fid.num))
