-- Where the blocks of a file lie.
use Rattle.std.specs.Prelude.{◌&&◌, nat_lt, nat_le, is_some, ℕ, Bool, List, Option, Some, None, Result, Ok, Err, if◌then◌else◌}
use Rattle.base_words.specs.Fields.{Block}
use Rattle.fx_home.specs.declared.home.Home.{Home}
use Rattle.fx_home.specs.declared.home.HomeFault.{HomeFault}
use Rattle.fx_home.specs.Homes.{home_read}
use Rattle.fx_header.specs.Pointers.{lbns_in}
use Rattle.vol_parts.specs.Volumes.{Volume, volume, fields, runs}
use Rattle.vol_parts.specs.Findings.{home_at}

-- a file in use has this number
unfoldable pub is_file : Volume → ℕ → Bool
is_file v n = nat_lt 0 n && (nat_le n v.home.files && is_some (fields v n))

-- the LBNs of the blocks of the file of a number, in the order of the file, or none where no file in use has this number
abbrev pub lbns_of : Volume → ℕ → Option (List ℕ)
lbns_of v n = if is_file v n then Some (lbns_in (runs v n)) else None

abbrev pub lbns_by : List Block → Result Home HomeFault → ℕ → Option (List ℕ)
lbns_by bs (Err fault) n = None
lbns_by bs (Ok home) n = lbns_of (volume home bs) n

-- the same of blocks; none where the home block has a fault
abbrev pub lbns_at : List Block → ℕ → Option (List ℕ)
lbns_at bs n = lbns_by bs (home_read (home_at bs)) n
