-- What a reader of a part may ask of a volume, each time that an earlier finding is absent; and what it answers.
use Rattle.std.specs.Prelude.{◌≡◌, ◌≤◌, ◌<◌, ℕ, true, false, List, Option, Some, None, is_some}
use Rattle.std.specs.List.{list_any}
use Rattle.fx_quota.specs.declared.types.Row.{Row}
use Rattle.plain_cat.specs.declared.ids.Uic.{Uic}
use Rattle.vol_parts.specs.declared.finding.Finding.{Finding}
use Rattle.vol_parts.specs.Volumes.{Volume, IsNumber, used_slot, runs}
use Rattle.vol_parts.specs.Fatal.{is_system_file, is_off_bounds, dir_fault, has_two_rows}

-- the slot of a number is used
pub record IsUsedSlot (v : Volume) (n : ℕ) : Type 0 where
  pub used : is_some (used_slot v n) ≡ true

-- the files 1 to 11 are as the structure of a volume asks
pub record HasSystemFiles (v : Volume) : Type 0 where
  pub sound : (n : ℕ) → 1 ≤ n → n ≤ 11 → is_system_file v n ≡ true

-- the runs of this file begin and end at bounds of clusters, inside the whole clusters
pub record HasRunsInside (v : Volume) (n : ℕ) : Type 0 where
  pub inside : list_any (is_off_bounds v) (runs v n) ≡ false

-- the runs of all files do
pub record HasAllRunsInside (v : Volume) : Type 0 where
  pub inside : (n : ℕ) → IsNumber v n → HasRunsInside v n

-- the fault of the lowest directory that has one, or none where none has
abbrev pub IsFirstDirFault : Volume → Option Finding → Type 0
IsFirstDirFault v None = (n : ℕ) → IsNumber v n → dir_fault v n ≡ None
IsFirstDirFault v (Some f) =
    (n : ℕ) × IsNumber v n × (dir_fault v n ≡ Some f) × ((m : ℕ) → 1 ≤ m → m < n → dir_fault v m ≡ None)

-- the lowest owner that has two rows of these, or none where no owner has two
abbrev pub IsLowestTwice : List Row → Option Uic → Type 0
IsLowestTwice rs None = (uic : ℕ) → has_two_rows rs uic ≡ false
IsLowestTwice rs (Some owner) = (has_two_rows rs owner.0 ≡ true) × ((uic : ℕ) → has_two_rows rs uic ≡ true → owner.0 ≤ uic)
