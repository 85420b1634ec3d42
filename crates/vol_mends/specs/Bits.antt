-- The writes of bitmap blocks that say what the headers say.
use Rattle.std.specs.Prelude.{◌≡◌, ◌≢◌, ◌<◌, ◌-◌, ◌/◌, ◌%◌, not, ℕ, Bool, false, List, Ok, length, map, slice_set}
use Rattle.base_words.specs.Fields.{Block, IsWholeBlock}
use Rattle.fx_home.specs.declared.home.Home.{Home}
use Rattle.fx_home.specs.Homes.{home_read}
use Rattle.fx_bitmap.specs.Bits.{bit_at}
use Rattle.plain_cat.specs.declared.cat.Cat.{Cat}
use Rattle.vol_parts.specs.declared.geometry.Geometry.{Geometry}
use Rattle.vol_parts.specs.declared.geometry.Part.TheVariants.{IndexBitmap, Storage}
use Rattle.vol_parts.specs.Parts.{storage_blocks}
use Rattle.vol_parts.specs.Volumes.{volume, is_in_slots, is_in_files, is_free_cluster}
use Rattle.vol_parts.specs.Findings.{home_at}
use Rattle.vol_spell.specs.Reading.{IsFileNumber, total_of}
use Rattle.vol_spell.specs.Places.{place_of}
use Rattle.vol_mends.specs.Told.{IsTold, LeadsTo, KeepsSingles}
use Rattle.vol_mends.specs.Clean.{IsClean, KeepsClean}

-- ---- numbers

-- Clean blocks, and a block for the index-file bitmap in which a number is in use exactly where it is that of a header slot of a file.
pub record AreFileBits (g : Geometry) (bs : List Block) (c : Cat) (home : Home) (b : Block) : Type 0 where
  pub told : IsTold g bs c
  pub clean : IsClean g bs
  pub read : home_read (home_at bs) ≡ Ok home
  pub whole : IsWholeBlock b
  pub bits : (n : ℕ) → IsFileNumber g n → bit_at b (n - 1) ≡ is_in_slots (volume home bs) n

-- no number is leaked
abbrev pub numbers_left : Cat → Cat
numbers_left c = record c { leaked_numbers = map (λ (b : Bool). false) c.leaked_numbers }

-- with it no number is leaked
pub record NumbersAreSet : Type 0 where
  pub leads : (g : Geometry) (bs : List Block) (c : Cat) (home : Home) (b : Block) → AreFileBits g bs c home b → LeadsTo g bs c (numbers_left c) (slice_set bs (place_of g IndexBitmap) b)
  pub singles : (g : Geometry) (bs : List Block) (c : Cat) (home : Home) (b : Block) → AreFileBits g bs c home b → KeepsSingles g bs (slice_set bs (place_of g IndexBitmap) b)
  pub clean : (g : Geometry) (bs : List Block) (c : Cat) (home : Home) (b : Block) → AreFileBits g bs c home b → KeepsClean g bs (slice_set bs (place_of g IndexBitmap) b)
  pub within : (g : Geometry) (bs : List Block) (c : Cat) → IsTold g bs c → place_of g IndexBitmap < length bs

-- ---- clusters

-- a block for block k of the storage bitmap in which a cluster is free exactly where no file has it
pub record AreSpaceBits (g : Geometry) (bs : List Block) (c : Cat) (home : Home) (k : ℕ) (b : Block) : Type 0 where
  pub told : IsTold g bs c
  pub read : home_read (home_at bs) ≡ Ok home
  pub block : k < storage_blocks (total_of g)
  pub whole : IsWholeBlock b
  pub bits : (q : ℕ) → q < total_of g → q / 4096 ≡ k → bit_at b (q % 4096) ≡ not (is_in_files (volume home bs) q)

-- the blocks after it: some clusters are leaked still, the clusters of files are the same, and the bits are those of
-- the block where it has the cluster's bit, and the same elsewhere
pub record SpaceIsSet (g : Geometry) (bs : List Block) (c : Cat) (home : Home) (k : ℕ) (b : Block) (new : List Block) : Type 0 where
  pub left : ℕ
  pub leads : LeadsTo g bs c (record c { leaked = left }) new
  pub singles : KeepsSingles g bs new
  pub clean : KeepsClean g bs new
  pub same : (q : ℕ) → is_in_files (volume home new) q ≡ is_in_files (volume home bs) q
  pub here : (q : ℕ) → q / 4096 ≡ k → is_free_cluster (volume home new) q ≡ bit_at b (q % 4096)
  pub elsewhere : (q : ℕ) → q / 4096 ≢ k → is_free_cluster (volume home new) q ≡ is_free_cluster (volume home bs) q

-- with it no cluster is leaked that has its bit there; and none is leaked at all where each bit says what the headers say
pub record ClustersAreSet : Type 0 where
  pub leads : (g : Geometry) (bs : List Block) (c : Cat) (home : Home) (k : ℕ) (b : Block) → AreSpaceBits g bs c home k b → SpaceIsSet g bs c home k b (slice_set bs (place_of g (Storage k)) b)
  pub none : (g : Geometry) (bs : List Block) (c : Cat) (home : Home) → IsTold g bs c → home_read (home_at bs) ≡ Ok home
      → ((q : ℕ) → q < total_of g → is_free_cluster (volume home bs) q ≡ not (is_in_files (volume home bs) q)) → c.leaked ≡ 0
  pub within : (g : Geometry) (bs : List Block) (c : Cat) (k : ℕ) → IsTold g bs c → k < storage_blocks (total_of g) → place_of g (Storage k) < length bs
