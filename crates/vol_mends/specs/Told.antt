-- Blocks of a volume that can be mended, and what one write of mending leaves of them.
use Rattle.std.specs.Prelude.{◌≡◌, ℕ, false, List, length}
use Rattle.base_words.specs.Fields.{Block, AreWholeBlocks}
use Rattle.fx_home.specs.Homes.{home_read}
use Rattle.plain_cat.specs.declared.cat.Cat.{Cat}
use Rattle.plain_mends.specs.Resuming.{MendsTo}
use Rattle.vol_parts.specs.declared.geometry.Geometry.{Geometry}
use Rattle.vol_parts.specs.Warnings.{has_doubles}
use Rattle.vol_parts.specs.Findings.{home_at, CatOf}
use Rattle.vol_faults.specs.Conditions.{IsSize}
use Rattle.vol_faults.specs.Free.{IsGeometryBy}
use Rattle.vol_spell.specs.Reading.{IsFileNumber, volume_of}
use Rattle.vol_mends.specs.Mends.{Mends}

-- the whole blocks of a volume with no fatal finding, which have the geometry g and tell the catalogue c
pub record IsTold (g : Geometry) (bs : List Block) (c : Cat) : Type 0 where
  pub size : IsSize (length bs)
  pub whole : AreWholeBlocks bs
  pub cat : CatOf bs c
  pub geometry : IsGeometryBy bs (home_read (home_at bs)) g

-- the blocks after a write have no fatal finding, tell the catalogue d, and mend to the same as those before; the home block stays
pub record LeadsTo (g : Geometry) (bs : List Block) (c d : Cat) (new : List Block) : Type 0 where
  pub told : IsTold g new d
  pub home : home_at new ≡ home_at bs
  pub ends : (z : Cat) → MendsTo c z → MendsTo d z
  pub mends : (z : Cat) → Mends bs z → Mends new z

-- no entry of directory n stands in two of its blocks
abbrev pub IsSingle : Geometry → List Block → ℕ → Type 0
IsSingle g bs n = has_doubles (volume_of g bs) n ≡ false

-- no directory gets an entry that stands in two of its blocks
abbrev pub KeepsSingles : Geometry → List Block → List Block → Type 0
KeepsSingles g bs new = (n : ℕ) → IsFileNumber g n → IsSingle g bs n → IsSingle g new n
