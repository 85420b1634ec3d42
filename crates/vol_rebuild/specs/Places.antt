-- Where the blocks of a directory stand, and its moves as writes.
use Rattle.std.specs.Prelude.{◌<◌, ◌-◌, ℕ, List, All, length, map, take, slice_index_or}
use Rattle.base_words.specs.Fields.{Block}
use Rattle.fx_header.specs.Pointers.{lbns_in}
use Rattle.fx_dir.specs.declared.Move.{Move}
use Rattle.plain_cat.specs.declared.cat.Cat.{Cat}
use Rattle.base_words.specs.Lists.{written}
use Rattle.vol_parts.specs.declared.geometry.Geometry.{Geometry}
use Rattle.vol_spell.specs.Reading.{header_block, header_place, runs_told}
use Rattle.vol_mends.specs.Mends.{Mends}
use Rattle.vol_mends.specs.Told.{IsTold, IsSingle, KeepsSingles}

-- moves as writes of blocks at these places
abbrev pub moved_at : List ℕ → List Move → List (ℕ × Block)
moved_at ls ms = map (λ m. (slice_index_or ls (m.vbn - 1) 0, m.block)) ms

-- the blocks after moves at these places
abbrev pub written_at : List ℕ → List Move → List Block → List Block
written_at ls ms bs = written (moved_at ls ms) bs

-- where the blocks of the file of a header stand: nowhere where no file has the header
abbrev pub places_told : Block → List ℕ
places_told b = lbns_in (runs_told b)

-- the header of directory n and its blocks are on the volume
pub record IsThere (g : Geometry) (bs : List Block) (n : ℕ) : Type 0 where
  pub header : header_place g n < length bs
  pub blocks : All (λ l. l < length bs) (places_told (header_block g bs n))

-- Moves in directory n at these places, which lead to the catalogue d. After each number of them the blocks mend to the same, and after
-- all of them the directory has no entry in two of its blocks.
pub record DirLeads (g : Geometry) (bs : List Block) (d : Cat) (n : ℕ) (ls : List ℕ) (ms : List Move) : Type 0 where
  pub inside : All (λ l. l < length bs) ls
  pub mends : (k : ℕ) (z : Cat) → Mends bs z → Mends (written_at ls (take k ms) bs) z
  pub told : IsTold g (written_at ls ms bs) d
  pub singles : KeepsSingles g bs (written_at ls ms bs)
  pub single : IsSingle g (written_at ls ms bs) n
