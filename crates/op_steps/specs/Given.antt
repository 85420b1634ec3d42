-- The clusters and the number that a command was given.
use Rattle.std.specs.Prelude.{◌<◌, ℕ, List, Option, IfSome}
use Rattle.base_words.specs.Lists.{Has}
use Rattle.vol_parts.specs.declared.geometry.Geometry.{Geometry}
use Rattle.vol_spell.specs.Reading.{IsFileNumber, total_of}

-- clusters and a number that were given are the volume's
pub record IsOfVolume (g : Geometry) (clusters : List ℕ) (number : Option ℕ) : Type 0 where
  pub there : (q : ℕ) → Has clusters q → q < total_of g
  pub slot : IfSome number (λ n. IsFileNumber g n)
