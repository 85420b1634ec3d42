-- Where the blocks of a directory stand, by its header.
use Rattle.std.specs.Prelude.{◌<◌, ℕ, List, All, length}
use Rattle.base_words.specs.Fields.{Block}
use Rattle.fx_header.specs.declared.run.Run.{Run}
use Rattle.fx_header.specs.Headers.{header_read}
use Rattle.fx_header.specs.Pointers.{lbns_in}
use Rattle.vol_parts.specs.declared.geometry.Geometry.{Geometry}
use Rattle.vol_parts.specs.Volumes.{fields_in, runs_with}
use Rattle.vol_spell.specs.Reading.{header_block, header_place}

-- the runs that a header lists: none where it is not in use
abbrev pub runs_listed : Block → List Run
runs_listed b = runs_with (fields_in (header_read b)) b

-- where the blocks of these runs stand
abbrev pub places_listed : Block → List ℕ
places_listed b = lbns_in (runs_listed b)

-- the header of directory n and the blocks that it lists are on the volume
pub record IsThere (g : Geometry) (bs : List Block) (n : ℕ) : Type 0 where
  pub header : header_place g n < length bs
  pub blocks : All (λ l. l < length bs) (places_listed (header_block g bs n))
