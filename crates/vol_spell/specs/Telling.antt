-- What the blocks spell is what they tell as a volume.
use Rattle.std.specs.Prelude.{◌≡◌, ℕ, List}
use Rattle.base_words.specs.Fields.{Block}
use Rattle.fx_header.specs.Headers.{header_read}
use Rattle.fx_header.specs.Pointers.{lbns_in}
use Rattle.plain_cat.specs.declared.cat.Cat.{Cat}
use Rattle.vol_spell.specs.Owners.{Owners}
use Rattle.vol_spell.specs.Spread.{blocks_at}
use Rattle.vol_parts.specs.declared.geometry.Geometry.{Geometry}
use Rattle.vol_parts.specs.Volumes.{head, told, runs, body, geometry_of, is_free_cluster, is_used_number, active_rows}
use Rattle.vol_parts.specs.Catalogues.{files_of, rows_sorted}
use Rattle.vol_spell.specs.Reading.{IsFileNumber, volume_of, header_block, told_of, cluster_bit, number_bit, rows_told}
use Rattle.vol_spell.specs.Spelling.{Spells}

-- the volume has this geometry, and its headers, bits, rows and files are those of the blocks and of the catalogue
pub record IsToldBy (g : Geometry) (bs : List Block) (c : Cat) : Type 0 where
  pub geometry : geometry_of (volume_of g bs) ≡ g
  pub heads : (n : ℕ) → IsFileNumber g n → head (volume_of g bs) n ≡ header_read (header_block g bs n)
  pub told : (n : ℕ) → IsFileNumber g n → told (volume_of g bs) n ≡ told_of g bs n
  pub runs : (n : ℕ) → IsFileNumber g n → runs (volume_of g bs) n ≡ (told_of g bs n).runs
  pub bodies : (n : ℕ) → IsFileNumber g n → body (volume_of g bs) n ≡ blocks_at bs (lbns_in ((told_of g bs n).runs))
  pub cluster_bits : (q : ℕ) → is_free_cluster (volume_of g bs) q ≡ cluster_bit g bs q
  pub number_bits : (n : ℕ) → is_used_number (volume_of g bs) n ≡ number_bit g bs n
  pub rows : active_rows (volume_of g bs) ≡ rows_told g bs
  pub files : c.files ≡ files_of (volume_of g bs)
  pub quota : c.quota ≡ rows_sorted (active_rows (volume_of g bs))

abbrev pub VolumeTells : Type 0
VolumeTells = (g : Geometry) (bs : List Block) (own : Owners) (c : Cat) → Spells g bs own c → IsToldBy g bs c
