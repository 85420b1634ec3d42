-- What goes when a file loses clusters, and what was looked at before.
use Rattle.std.specs.Prelude.{◌≡◌, ◌≤◌, ℕ, List, [], length}
use Rattle.base_words.specs.Fields.{Block}
use Rattle.vol_parts.specs.declared.geometry.Geometry.{Geometry}
use Rattle.op_law.specs.Behind.{blocks_alone}
use Rattle.op_law.specs.Freeing.{SeenSpace, blocks_for}
use Rattle.op_law.specs.Refusing.{SeenFile}
use Rattle.op_law.specs.Sizes.{cut_clusters, cut_numbers}
use Rattle.op_extend.specs.declared.cutting.Gone.{Gone}
use Rattle.op_extend.specs.declared.cutting.Space.{Space}
use Rattle.op_extend.specs.declared.cutting.Index.{Index}
use Rattle.op_extend.specs.declared.cutting.Index.TheVariants as index

-- this goes if the file keeps its first k clusters
pub record IsGone (g : Geometry) (f : SeenFile) (k : ℕ) (gone : Gone) : Type 0 where
  pub clusters : gone.clusters ≡ cut_clusters g f k
  pub numbers : gone.numbers ≡ cut_numbers g f k

-- the block of the index-file bitmap; which one it is where none was looked at is no matter
abbrev pub index_seen : Index → Block
index_seen (index.Seen b) = b.now
index_seen index.Unseen = []

-- it was looked at if one of these numbers becomes free
abbrev pub IsIndexFor : List ℕ → Index → Type 0
IsIndexFor ns (index.Seen b) = Unit {0}
IsIndexFor ns index.Unseen = ns ≡ []

-- the blocks as the row of events has them
abbrev pub space_seen : Space → SeenSpace
space_seen s = record { quota = blocks_alone s.quota.now; index = index_seen s.index; storage = blocks_alone s.storage.now }

-- at most 16 quota blocks were looked at, and those of the bitmaps that have bits of what goes
pub record IsLooked (g : Geometry) (gone : Gone) (s : Space) : Type 0 where
  pub quota : length s.quota.now ≤ 16
  pub index : IsIndexFor gone.numbers s.index
  pub storage : length s.storage.now ≡ length (blocks_for g gone.clusters)
