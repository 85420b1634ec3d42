-- What the volume by its home block is, in the words of the geometry.
use Rattle.std.specs.Prelude.{◌≡◌, ◌<◌, ◌+◌, ℕ, true, List, Some, Ok, is_some, slice_index_or}
use Rattle.base_words.specs.Fields.{Block}
use Rattle.fx_home.specs.declared.home.Home.{Home}
use Rattle.fx_home.specs.Homes.{home_read}
use Rattle.plain_cat.specs.declared.cat.Cat.{Cat}
use Rattle.plain_cat.specs.declared.cat.File.{File}
use Rattle.plain_rules.specs.Lookups.{file_at}
use Rattle.vol_parts.specs.declared.geometry.Geometry.{Geometry}
use Rattle.vol_parts.specs.Volumes.{volume, fields, runs, body, first_lbn, geometry_of}
use Rattle.vol_parts.specs.Warnings.{has_doubles}
use Rattle.vol_parts.specs.Findings.{home_at}
use Rattle.vol_spell.specs.Reading.{IsFileNumber, header_block, volume_of}
use Rattle.vol_spell.specs.Entries.{places_in, blocks_of}
use Rattle.vol_mends.specs.Told.{IsTold}

-- The volume has this geometry; a number has a header in use exactly where the catalogue has a file; the blocks of a directory are those
-- of its one run, in order; and a directory has doubles whatever the label.
pub record IsSeen (g : Geometry) (home : Home) (bs : List Block) (c : Cat) : Type 0 where
  pub geometry : geometry_of (volume home bs) ≡ g
  pub used : (n : ℕ) → IsFileNumber g n → is_some (fields (volume home bs) n) ≡ is_some (file_at c n)
  pub bodies : (n : ℕ) (d : File) → file_at c n ≡ Some d → d.dir ≡ true → body (volume home bs) n ≡ blocks_of g bs n
  pub places : (n : ℕ) (d : File) (i : ℕ) → file_at c n ≡ Some d → d.dir ≡ true → i < g.cluster → slice_index_or (places_in (header_block g bs n)) i 0 ≡ first_lbn (runs (volume home bs) n) + i
  pub doubles : (n : ℕ) → IsFileNumber g n → has_doubles (volume home bs) n ≡ has_doubles (volume_of g bs) n

abbrev pub VolumeIsSeen : Type 0
VolumeIsSeen = (g : Geometry) (home : Home) (bs : List Block) (c : Cat) → IsTold g bs c → home_read (home_at bs) ≡ Ok home → IsSeen g home bs c
