-- The search for clusters and a file number in the bitmaps of a volume, by the blocks that were looked at so far: the index-file
-- bitmap where a number is wanted, and then the storage bitmap from its first block on.
use Rattle.std.specs.Prelude.{◌+◌, ◌-◌, ◌*◌, ◌%◌, ◌++◌, not, min, nat_le, nat_lt, ℕ, zero, suc, Bool, true, false, List, [], ◌∷◌, Option, Some, None, length, map, filter, find, take, if◌then◌else◌}
use Rattle.std.specs.List.{range_with_len, fold}
use Rattle.base_words.specs.Fields.{Block}
use Rattle.fx_bitmap.specs.Bits.{bit_at, bits_put}
use Rattle.lock_db.specs.declared.name.LockName.TheVariants.{V}
use Rattle.plain_cat.specs.declared.history.Stage.TheVariants as stage
use Rattle.plain_cat.specs.declared.reply.Refusal.{Refusal}
use Rattle.plain_cat.specs.declared.reply.Refusal.TheVariants.{IndexFull, DeviceFull}
use Rattle.vol_parts.specs.declared.geometry.Geometry.{Geometry}
use Rattle.vol_parts.specs.declared.geometry.Part.TheVariants.{IndexBitmap, Storage}
use Rattle.vol_parts.specs.Parts.{storage_blocks}
use Rattle.vol_spell.specs.Reading.{total_of}
use Rattle.vol_spell.specs.Places.{place_of}
use Rattle.op_law.specs.declared.need.PlanWrite.{PlanWrite}
use Rattle.op_law.specs.Writing.{holding, write_at}

-- ---- the blocks that it looks at

-- so many blocks of the storage bitmap from block k on
abbrev pub storage_places : Geometry → ℕ → ℕ → List ℕ
storage_places g k count = map (λ j. place_of g (Storage j)) (range_with_len k count)

-- all of them, where clusters are wanted
abbrev pub cluster_places : Geometry → ℕ → List ℕ
cluster_places g zero = []
cluster_places g (suc more) = storage_places g 0 (storage_blocks (total_of g))

-- what a search for so many clusters, and a number or none, may look at, in order
abbrev pub places : Geometry → ℕ → Bool → List ℕ
places g clusters true = place_of g IndexBitmap ∷ cluster_places g clusters
places g clusters false = cluster_places g clusters

-- ---- what is free there

-- the lowest number of the volume whose bit is clear
unfoldable pub free_number : Geometry → Block → Option ℕ
free_number g b = find (λ n. not (bit_at b (n - 1))) (range_with_len 1 g.files)

-- the clusters of the volume that have their bits in block k of the storage bitmap, rising
abbrev pub clusters_in : Geometry → ℕ → List ℕ
clusters_in g k = range_with_len (4096 * k) (min (4096 * k + 4096) (total_of g) - 4096 * k)

-- those whose bits are set
unfoldable pub free_in : Geometry → ℕ → Block → List ℕ
free_in g k b = filter (λ q. bit_at b (q % 4096)) (clusters_in g k)

-- those of these blocks, of which the first is block k
unfoldable pub free_from : Geometry → ℕ → List Block → List ℕ
free_from g k [] = []
free_from g k (b ∷ bs) = free_in g k b ++ free_from g (k + 1) bs

-- ---- the writes that take it

-- the write of the index-file bitmap that takes number n
abbrev pub number_write : Geometry → ℕ → Block → PlanWrite
number_write g n b = write_at V (place_of g IndexBitmap) (bits_put b (n - 1) 1 true) stage.Nothing (holding [] (Some n))

-- a block of the storage bitmap in which the bits of these clusters are clear
unfoldable pub with_taken : Block → List ℕ → Block
with_taken b qs = fold (λ c q. bits_put c (q % 4096) 1 false) b qs

-- what is taken from block k where some are taken before it: its lowest free clusters, as far as more are wanted
unfoldable pub taken_in : Geometry → ℕ → List ℕ → ℕ → Block → List ℕ
taken_in g wanted before k b = take (wanted - length before) (free_in g k b)

-- the write of block k of the storage bitmap that takes these clusters, or none where they are none
abbrev pub cluster_write : Geometry → Option ℕ → List ℕ → ℕ → Block → List ℕ → List PlanWrite
cluster_write g number before k b [] = []
cluster_write g number before k b (q ∷ qs) =
    write_at V (place_of g (Storage k)) (with_taken b (q ∷ qs)) stage.Nothing (holding (before ++ q ∷ qs) number) ∷ []

-- the writes that take what is wanted from these blocks, of which the first is block k, where some clusters are taken before
unfoldable pub cluster_writes : Geometry → ℕ → Option ℕ → List ℕ → ℕ → List Block → List PlanWrite
cluster_writes g wanted number before k [] = []
cluster_writes g wanted number before k (b ∷ bs) =
    cluster_write g number before k b (taken_in g wanted before k b) ++ cluster_writes g wanted number (before ++ taken_in g wanted before k b) (k + 1) bs

-- ---- what the search finds

pub data Found : Type 0 where
  -- another block is to be looked at
  More : Found
  -- there is too little
  Short : Refusal → Found
  -- there is enough, and these writes take it
  Enough : List PlanWrite → Found

-- by the blocks of the storage bitmap, with the number and the writes that come first
unfoldable pub found_clusters : Geometry → ℕ → Option ℕ → List PlanWrite → List Block → Found
found_clusters g clusters number first bs =
    if nat_le clusters (length (free_from g 0 bs)) then Enough (first ++ cluster_writes g clusters number [] 0 bs)
    else if nat_lt (length bs) (storage_blocks (total_of g)) then More
    else Short DeviceFull

-- by the block of the index-file bitmap and its free number, and those of the storage bitmap
abbrev pub found_number : Geometry → ℕ → Block → Option ℕ → List Block → Found
found_number g clusters index None bs = Short IndexFull
found_number g clusters index (Some n) bs = found_clusters g clusters (Some n) (number_write g n index ∷ []) bs

-- by the blocks that were looked at so far
abbrev pub found : Geometry → ℕ → Bool → List Block → Found
found g clusters false bs = found_clusters g clusters None [] bs
found g clusters true [] = More
found g clusters true (index ∷ bs) = found_number g clusters index (free_number g index) bs
