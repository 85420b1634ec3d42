-- The clusters of a volume.
use Rattle.std.specs.Prelude.{◌≤◌, ◌+◌, ℕ, drop}
use Rattle.std.specs.List.{sum_by}
use Rattle.plain_cat.specs.declared.cat.Cat.{Cat}
use Rattle.plain_rules.specs.Lookups.{clusters_in}

-- the clusters that are not free: the reserved ones, the leaked ones, and those of the files above number 11
abbrev pub taken : Cat → ℕ
taken c = c.reserved + c.leaked + sum_by clusters_in (drop 11 c.files)

-- no more are taken than there are
abbrev pub Fits : Cat → Type 0
Fits c = taken c ≤ c.total
