-- The index-file bitmap, and the storage bitmap while it is written block by block.
use Rattle.std.specs.Prelude.{◌≡◌, ◌≢◌, ◌<◌, ◌/◌, ◌==◌, ◌-◌, not, ℕ, Bool, false, List, Ok, length, slice_index, slice_index_or}
use Rattle.base_words.specs.Fields.{Block}
use Rattle.fx_home.specs.declared.home.Home.{Home}
use Rattle.fx_home.specs.Homes.{home_read}
use Rattle.plain_cat.specs.declared.cat.Cat.{Cat}
use Rattle.vol_parts.specs.declared.geometry.Geometry.{Geometry}
use Rattle.vol_parts.specs.Volumes.{volume, is_in_slots, is_in_files, is_free_cluster}
use Rattle.vol_parts.specs.Findings.{home_at}
use Rattle.vol_spell.specs.Reading.{IsFileNumber, total_of}
use Rattle.vol_mends.specs.Told.{IsTold, KeepsSingles}
use Rattle.vol_mends.specs.Clean.{KeepsClean}

-- for each number a flag, which says whether it is that of a header slot of a file
pub record AreFlagged (g : Geometry) (bs : List Block) (flags : List Bool) : Type 0 where
  pub home : Home
  pub read : home_read (home_at bs) ≡ Ok home
  pub all : length flags ≡ g.files
  pub each : (n : ℕ) → IsFileNumber g n → slice_index_or flags (n - 1) false ≡ is_in_slots (volume home bs) n

-- the blocks tell the catalogue but for what is leaked, and the counts say which clusters no file has
pub record IsCounted (g : Geometry) (home : Home) (counts : List ℕ) (bs : List Block) (c : Cat) : Type 0 where
  pub left : ℕ
  pub told : IsTold g bs (record c { leaked = left })
  pub read : home_read (home_at bs) ≡ Ok home
  pub all : length counts ≡ total_of g
  pub each : (q : ℕ) → q < total_of g → (slice_index counts q == 0) ≡ not (is_in_files (volume home bs) q)

-- block k of the storage bitmap says so, the other blocks as before
pub record IsSpaceSet (g : Geometry) (home : Home) (counts : List ℕ) (old new : List Block) (c : Cat) (k : ℕ) : Type 0 where
  pub counted : IsCounted g home counts new c
  pub here : (q : ℕ) → q < total_of g → q / 4096 ≡ k → is_free_cluster (volume home new) q ≡ (slice_index counts q == 0)
  pub elsewhere : (q : ℕ) → q / 4096 ≢ k → is_free_cluster (volume home new) q ≡ is_free_cluster (volume home old) q
  pub singles : KeepsSingles g old new
  pub clean : KeepsClean g old new

-- no cluster is leaked
pub record IsSpaceTidy (g : Geometry) (old new : List Block) (c : Cat) : Type 0 where
  pub told : IsTold g new (record c { leaked = 0 })
  pub singles : KeepsSingles g old new
  pub clean : KeepsClean g old new
