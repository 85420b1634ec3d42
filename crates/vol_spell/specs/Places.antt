-- Where the parts of a volume lie, and in which files.
use Rattle.std.specs.Prelude.{◌≡◌, ◌+◌, ◌*◌, ◌<◌, ℕ, Some}
use Rattle.vol_spell.specs.declared.owner.Owner.TheVariants.{InFile}
use Rattle.vol_spell.specs.Owners.{Owners}
use Rattle.vol_parts.specs.declared.geometry.Geometry.{Geometry}
use Rattle.vol_parts.specs.declared.geometry.Part.{Part}
use Rattle.vol_parts.specs.declared.geometry.Part.TheVariants.{Header, IndexBitmap, Storage, Quota}
use Rattle.vol_parts.specs.Parts.{part_of, storage_blocks}
use Rattle.vol_spell.specs.Reading.{IsFileNumber, owner_at, total_of}

-- where a part lies
abbrev pub place_of : Geometry → Part → ℕ
place_of g (Header n) = 4 * g.cluster + n
place_of g IndexBitmap = 4 * g.cluster
place_of g (Storage k) = g.bitmap_lbn + 1 + k
place_of g (Quota k) = g.quota_lbn + k

-- a part that the volume has
abbrev pub IsPart : Geometry → Part → Type 0
IsPart g (Header n) = IsFileNumber g n
IsPart g IndexBitmap = Unit {0}
IsPart g (Storage k) = k < storage_blocks (total_of g)
IsPart g (Quota k) = k < g.cluster

-- the file in whose clusters a part lies
abbrev pub file_of_part : Part → ℕ
file_of_part (Header n) = 1
file_of_part IndexBitmap = 1
file_of_part (Storage k) = 2
file_of_part (Quota k) = 10

-- the parts lie apart, each in the clusters of its file
pub record ArePartsOf (g : Geometry) (own : Owners) : Type 0 where
  pub there : (p : Part) → IsPart g p → part_of g (place_of g p) ≡ Some p
  pub only : (l : ℕ) (p : Part) → part_of g l ≡ Some p → IsPart g p × (place_of g p ≡ l)
  pub apart : (p r : Part) → IsPart g p → IsPart g r → place_of g p ≡ place_of g r → p ≡ r
  pub owned : (l : ℕ) (p : Part) → part_of g l ≡ Some p → owner_at g own l ≡ Some (InFile (file_of_part p))
