-- Clusters and file numbers that become free: the bitmap blocks that are looked at and written.
use Rattle.std.specs.Prelude.{◌==◌, ◌+◌, ◌-◌, ◌*◌, ◌/◌, ◌%◌, ◌++◌, nat_lt, ℕ, Bool, true, false, List, [], ◌∷◌, None, map, filter}
use Rattle.std.specs.List.{list_any, range_with_len, fold}
use Rattle.base_words.specs.Fields.{Block}
use Rattle.fx_bitmap.specs.Bits.{bits_put}
use Rattle.fx_header.specs.Headers.{freed}
use Rattle.lock_db.specs.declared.name.LockName.TheVariants.{V}
use Rattle.plain_cat.specs.declared.mode.Mode.TheVariants.{PW}
use Rattle.plain_cat.specs.declared.history.Stage.{Stage}
use Rattle.plain_cat.specs.declared.history.Stage.TheVariants as stage
use Rattle.vol_parts.specs.declared.geometry.Geometry.{Geometry}
use Rattle.vol_parts.specs.declared.geometry.Part.TheVariants.{IndexBitmap, Storage}
use Rattle.vol_parts.specs.Parts.{storage_blocks}
use Rattle.vol_spell.specs.Reading.{total_of}
use Rattle.vol_spell.specs.Places.{place_of}
use Rattle.op_law.specs.declared.need.PlanWrite.{PlanWrite}
use Rattle.op_law.specs.Events.{Events, Take, Look}
use Rattle.op_law.specs.Rows.{look_all}
use Rattle.op_law.specs.Refusing.{SeenFile}
use Rattle.op_law.specs.Writing.{holding, empty_handed, write_at, with_numbers, header_write}
use Rattle.op_law.specs.SeenFiles.{file_clusters}
use Rattle.op_law.specs.Headers.{numbers_of, slots_freed}
use Rattle.op_law.specs.Quotas.{through_quota, owner_write, row_discharged}

-- these clusters of the volume in rising order, each once
unfoldable pub rising : Geometry → List ℕ → List ℕ
rising g qs = filter (λ q. list_any (λ p. p == q) qs) (range_with_len 0 (total_of g))

-- a cluster has its bit in block k of the storage bitmap, which counts from 0
abbrev pub lies_in : ℕ → ℕ → Bool
lies_in k q = q / 4096 == k

-- the blocks of the storage bitmap that have bits of these clusters, rising
unfoldable pub blocks_for : Geometry → List ℕ → List ℕ
blocks_for g qs = filter (λ k. list_any (lies_in k) qs) (range_with_len 0 (storage_blocks (total_of g)))

-- looks at these blocks of the storage bitmap, and what comes next by them
abbrev pub look_storage : Geometry → List ℕ → (List Block → Events) → Events
look_storage g ks next = look_all V (map (λ k. place_of g (Storage k)) ks) next

-- looks at the index-file bitmap where numbers become free, and what comes next by it
abbrev pub look_index : Geometry → List ℕ → (Block → Events) → Events
look_index g [] next = next []
look_index g (n ∷ ns) next = Look V (place_of g IndexBitmap) next

-- ---- writes

-- a block of the storage bitmap in which the bits of these clusters are set, so that they are free
unfoldable pub with_free : Block → List ℕ → Block
with_free b qs = fold (λ c q. bits_put c (q % 4096) 1 true) b qs

-- the clusters whose bits lie behind block k
abbrev pub behind : ℕ → List ℕ → List ℕ
behind k qs = filter (λ q. nat_lt k (q / 4096)) qs

-- The write that makes those of the clusters free that have their bits in block k. What has its bits behind it is still outside,
-- and these numbers.
abbrev pub storage_write : Geometry → Stage → List ℕ → List ℕ → ℕ → Block → PlanWrite
storage_write g s qs numbers k b =
    with_numbers numbers (write_at V (place_of g (Storage k)) (with_free b (filter (lies_in k) qs)) s (holding (behind k qs) None))

-- the same for each of these blocks
abbrev pub storage_writes : Geometry → Stage → List ℕ → List ℕ → List ℕ → List Block → List PlanWrite
storage_writes g s qs numbers [] bs = []
storage_writes g s qs numbers (k ∷ ks) [] = []
storage_writes g s qs numbers (k ∷ ks) (b ∷ bs) = storage_write g s qs numbers k b ∷ storage_writes g s qs numbers ks bs

-- a block of the index-file bitmap in which the bits of these numbers are clear, so that they are free
unfoldable pub without_numbers : Block → List ℕ → Block
without_numbers b ns = fold (λ c n. bits_put c (n - 1) 1 false) b ns

-- the write of the index-file bitmap that makes these numbers free, where there are any
abbrev pub index_write : Geometry → Stage → List ℕ → Block → List PlanWrite
index_write g s [] b = []
index_write g s (n ∷ ns) b = write_at V (place_of g IndexBitmap) (without_numbers b (n ∷ ns)) s empty_handed ∷ []

-- What was a file's and is outside becomes free: the clusters, and behind them the numbers. The blocks are those of the storage
-- bitmap that have bits of the clusters, and that of the index-file bitmap, which is no matter where there are no numbers.
abbrev pub freeing_tail : Geometry → Stage → List ℕ → List ℕ → List Block → Block → List PlanWrite
freeing_tail g s qs numbers storage index = storage_writes g s qs numbers (blocks_for g qs) storage ++ index_write g s numbers index

-- ---- a whole file

-- the clusters of a file, rising
abbrev pub all_clusters : Geometry → SeenFile → List ℕ
all_clusters g f = rising g (file_clusters g f)

-- what a command looks at before clusters and numbers become free: the quota blocks, the index-file bitmap, which is no matter where
-- no number does, and the storage blocks of the clusters
pub record SeenSpace : Type 0 where
  pub quota : List Block
  pub index : Block
  pub storage : List Block

-- their locks, the looks, and what comes next
abbrev pub through_space : Geometry → SeenFile → (SeenSpace → Events) → Events
through_space g f next = through_quota g PW (λ quota. Take V PW (Look V (place_of g IndexBitmap) (λ index.
    look_storage g (blocks_for g (all_clusters g f)) (λ storage. next (record { quota = quota; index = index; storage = storage })))))

-- The slots of a file's headers become free, that of the first one first.
unfoldable pub headers_freed : Geometry → SeenFile → List PlanWrite
headers_freed g f =
    let qs = all_clusters g f in
    let ns = numbers_of g f in
    with_numbers ns (header_write g f.num (freed f.file.seq) stage.Freed (holding qs None)) ∷ slots_freed g stage.Freed qs ns f.rest

-- The file goes: the slots of its headers become free, then its clusters and its numbers, and its owner is charged no more.
unfoldable pub freeing_writes : Geometry → SeenFile → SeenSpace → List PlanWrite
freeing_writes g f s =
    headers_freed g f
    ++ (freeing_tail g stage.Freed (all_clusters g f) (numbers_of g f) s.storage s.index
    ++ owner_write g s.quota f.file.owner (row_discharged (g.cluster * f.file.clusters + 1)) stage.Done empty_handed)
