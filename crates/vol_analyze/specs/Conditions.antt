-- What the findings that are not fatal ask of a volume, since they are told where no fatal finding holds.
use Rattle.std.specs.Prelude.{◌≡◌, ◌≤◌, ◌*◌, ℕ, None, All}
use Rattle.plain_cat.specs.declared.cat.Cat.{Cat}
use Rattle.plain_rules.specs.Lookups.{clusters_in}
use Rattle.vol_parts.specs.Volumes.{Volume, IsNumber}
use Rattle.vol_parts.specs.Fatal.{dir_fault}

-- no file has more than 65,536 blocks: its clusters are clusters of the volume, and none is in two runs
pub record HasFileSizes (c : Cat) : Type 0 where
  pub sizes : All (λ s. c.factor * clusters_in s ≤ 65536) c.files

-- no directory has a fault
pub record HasSoundDirectories (v : Volume) : Type 0 where
  pub sound : (n : ℕ) → IsNumber v n → dir_fault v n ≡ None
