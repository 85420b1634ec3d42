-- The numbers of a file's headers, as a command has seen them.
use Rattle.std.specs.Prelude.{◌≤◌, All}
use Rattle.vol_parts.specs.declared.geometry.Geometry.{Geometry}
use Rattle.op_law.specs.Headers.{slots_seen}
use Rattle.op_steps.specs.declared.seeing.FileSeen.{FileSeen}

-- they are no higher than the volume has them
pub record HasNumbers (g : Geometry) (f : FileSeen) : Type 0 where
  pub first : f.num ≤ g.files
  pub others : All (λ n. n ≤ g.files) (slots_seen g f.rest.now)
