-- What holds of the blocks while the bitmaps get the bits of what is kept.
use Rattle.std.specs.Prelude.{◌≡◌, ◌≤◌, ◌<◌, ◌/◌, ◌==◌, ◌&&◌, ◌||◌, not, ℕ, List, length, slice_index}
use Rattle.base_words.specs.Fields.{Block}
use Rattle.fx_home.specs.declared.home.Home.{Home}
use Rattle.vol_parts.specs.Volumes.{Volume, volume, IsNumber, total, bitmap_lbn, is_free_cluster, is_used_number}
use Rattle.vol_sound.specs.Sound.{is_kept}
use Rattle.vol_sound.specs.Begun.{is_in_kept}
use Rattle.vol_repair.specs.Touched.{IsGround, IsBitPlace, IsMadeIn}

-- for each cluster a count, which is 0 where no file that is kept has the cluster
pub record AreKeptCounts (v : Volume) (counts : List ℕ) : Type 0 where
  pub all : length counts ≡ total v
  pub each : (q : ℕ) → q < total v → (slice_index counts q == 0) ≡ not (is_in_kept v q)

-- The numbers of what is kept are in use, and so are its clusters whose bits stand before block k of the storage bitmap. From there on
-- the bits of clusters are as in the first blocks.
pub record AreBitsSet (home : Home) (first old new : List Block) (k : ℕ) : Type 0 where
  pub ground : IsGround home first new
  pub others : IsMadeIn (IsBitPlace (volume home first)) old new
  pub numbers : (n : ℕ) → IsNumber (volume home first) n → is_used_number (volume home new) n ≡ (is_used_number (volume home first) n || is_kept (volume home first) n)
  pub set : (q : ℕ) → q < total (volume home first) → q / 4096 < k → is_free_cluster (volume home new) q ≡ (is_free_cluster (volume home first) q && not (is_in_kept (volume home first) q))
  pub left : (q : ℕ) → q < total (volume home first) → k ≤ q / 4096 → is_free_cluster (volume home new) q ≡ is_free_cluster (volume home first) q

-- so it is, and the LBN of the storage control block and the counts are known
pub record IsBitTurn (home : Home) (first old now : List Block) (counts : List ℕ) (lbn k : ℕ) : Type 0 where
  pub bits : AreBitsSet home first old now k
  pub kept : AreKeptCounts (volume home first) counts
  pub control : lbn ≡ bitmap_lbn (volume home first)
