-- How far usages are above what files cost.
use Rattle.std.specs.Prelude.{◌≡◌, ◌≤◌, ◌<◌, ◌+◌, ◌*◌, ℕ, All, Some}
use Rattle.plain_cat.specs.declared.cat.Cat.{Cat}
use Rattle.plain_cat.specs.declared.cat.File.{File}
use Rattle.plain_cat.specs.declared.cat.QuotaRow.{QuotaRow}
use Rattle.plain_rules.specs.Lookups.{file_at, file_most}
use Rattle.plain_rules.specs.Accounts.{charge, death_cost}

-- the usage of a row is what its owner's files cost, or at most what so many deaths may have left above that
abbrev pub IsNear : Cat → ℕ → QuotaRow → Type 0
IsNear c deaths r = r.usage ≤ charge c r.owner + death_cost * deaths

-- and so of each row
abbrev pub AreNear : Cat → ℕ → Type 0
AreNear c deaths = All (IsNear c deaths) c.quota

-- A cluster has at most 16 blocks, and a file above number 11 has at most file_most clusters.
pub record HasSmallFiles (c : Cat) : Type 0 where
  pub factor : c.factor ≤ 16
  pub files : (n : ℕ) (f : File) → 11 < n → file_at c n ≡ Some f → f.clusters ≤ file_most
