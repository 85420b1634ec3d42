-- Where the blocks of files lie.
use Rattle.std.specs.Prelude.{◌≡◌, ◌<◌, ℕ, false, List, Some, None, length}
use Rattle.base_words.specs.Fields.{Block}
use Rattle.vol_spell.specs.declared.owner.Owner.TheVariants.{InFile}
use Rattle.base_words.specs.Lists.{Has, Once}
use Rattle.vol_spell.specs.Owners.{Owners}
use Rattle.vol_parts.specs.declared.geometry.Geometry.{Geometry}
use Rattle.vol_parts.specs.Parts.{part_of}
use Rattle.vol_parts.specs.Catalogues.{is_structure}
use Rattle.plain_cat.specs.declared.cat.Cat.{Cat}
use Rattle.vol_spell.specs.Reading.{IsFileNumber, owner_at, told_of, body_places}
use Rattle.vol_spell.specs.Places.{ArePartsOf}
use Rattle.vol_spell.specs.Spelling.{Spells}

-- each part of a volume lies in the clusters of its file, apart from all others
abbrev pub PartsLieApart : Type 0
PartsLieApart = (g : Geometry) (bs : List Block) (own : Owners) (c : Cat) → Spells g bs own c → ArePartsOf g own

-- a block that a file's slot tells of lies in the file's clusters, is no part of the volume, and is one of its blocks
pub record IsOfBody (g : Geometry) (bs : List Block) (own : Owners) (n l : ℕ) : Type 0 where
  pub plain : is_structure n ≡ false
  pub owned : owner_at g own l ≡ Some (InFile n)
  pub no_part : part_of g l ≡ None
  pub within : l < length bs

-- the blocks of each file are so, and none is listed twice
pub record BodiesLieApart : Type 0 where
  pub each : (g : Geometry) (bs : List Block) (own : Owners) (c : Cat) (n l : ℕ) → Spells g bs own c → IsFileNumber g n → Has (body_places n (told_of g bs n)) l → IsOfBody g bs own n l
  pub once : (g : Geometry) (bs : List Block) (own : Owners) (c : Cat) (n : ℕ) → Spells g bs own c → IsFileNumber g n → Once (body_places n (told_of g bs n))
