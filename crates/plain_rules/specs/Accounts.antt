-- The quotas of a catalogue, and the limits that it keeps under all commands.
use Rattle.std.specs.Prelude.{◌≡◌, ◌==◌, ◌≤◌, ◌+◌, ◌*◌, ℕ, true, List, All, length, is_some, if◌then◌else◌}
use Rattle.std.specs.List.{sum_by}
use Rattle.plain_cat.specs.declared.ids.Uic.{Uic}
use Rattle.plain_cat.specs.declared.cat.Cat.{Cat}
use Rattle.plain_cat.specs.declared.cat.Slot.{Slot}
use Rattle.plain_cat.specs.declared.cat.Slot.TheVariants.{Used, Free}
use Rattle.plain_cat.specs.declared.cat.QuotaRow.{QuotaRow}
use Rattle.plain_rules.specs.Lookups.{row_of, clusters_in, file_most}
use Rattle.plain_rules.specs.Changes.{cost}

-- what a slot's file costs an owner
abbrev pub share : Cat → Uic → Slot → ℕ
share c owner (Free seq) = 0
share c owner (Used f) = if owner.0 == f.owner.0 then cost c f.clusters else 0

-- what all files of an owner cost: their allocated blocks, and one for each file
abbrev pub charge : Cat → Uic → ℕ
charge c owner = sum_by (share c owner) c.files

-- the owner of a slot's file has a quota row
abbrev pub HasRow : List QuotaRow → Slot → Type 0
HasRow rows (Free seq) = Unit {0}
HasRow rows (Used f) = is_some (row_of f.owner rows) ≡ true

-- what the owner's files cost, or at most a million more, which deaths left
abbrev pub IsCharged : Cat → QuotaRow → Type 0
IsCharged c r = (charge c r.owner ≤ r.usage) × (r.usage ≤ charge c r.owner + 1000000)

-- The limits of a volume: a cluster factor of 1 to 16, at most 4,096 file numbers, and files of at most 65,536 blocks. Each
-- owner of a file has a quota row, and the usage of a row is what its owner's files cost, or at most a million more.
pub record Accounted (c : Cat) : Type 0 where
  pub factor_from : 1 ≤ c.factor
  pub factor_to : c.factor ≤ 16
  pub numbers : length c.files ≤ 4096
  pub sizes : All (λ s. c.factor * clusters_in s ≤ 65536) c.files
  pub owners : All (HasRow c.quota) c.files
  pub usage : All (IsCharged c) c.quota

-- What one death may leave above a row's sum, in blocks: the cost of the largest file above number 11. It has at most so many
-- clusters of at most 16 blocks, and costs one more for the file.
abbrev pub death_cost : ℕ
death_cost = 16 * file_most + 1
