-- The writes of the bitmaps that make clusters and file numbers of a command free.
use Rattle.std.specs.Prelude.{◌≡◌, ◌<◌, ◌-◌, ◌++◌, ◌↔◌, ℕ, true, List, [], None, length, map, slice_index_or}
use Rattle.base_words.specs.Fields.{Block}
use Rattle.lock_db.specs.declared.name.LockName.{LockName}
use Rattle.lock_db.specs.declared.name.LockName.TheVariants.{V}
use Rattle.plain_cat.specs.declared.history.Stage.{Stage}
use Rattle.plain_cat.specs.declared.cat.Cat.{Cat}
use Rattle.base_words.specs.Lists.{Has, Once}
use Rattle.vol_spell.specs.Owners.{Owners, Things, nothing, Outs}
use Rattle.vol_spell.specs.Spread.{blocks_at}
use Rattle.vol_parts.specs.declared.geometry.Geometry.{Geometry}
use Rattle.vol_parts.specs.declared.geometry.Part.TheVariants.{IndexBitmap, Storage}
use Rattle.vol_spell.specs.Reading.{total_of, cluster_bit}
use Rattle.vol_spell.specs.Places.{place_of}
use Rattle.vol_spell.specs.Spelling.{Spells}
use Rattle.vol_under.specs.UnderWay.{stage_after, outs_after}
use Rattle.vol_under.specs.Chains.{End}
use Rattle.vol_under.specs.Freeing.{FreesInTurn}
use Rattle.vol_under.specs.Refilling.{HaveBlankSlots}
use Rattle.op_law.specs.declared.need.PlanWrite.{PlanWrite}
use Rattle.op_law.specs.Laws.{planned, AreNamed, LeaveFew, KeepsOut}
use Rattle.op_law.specs.Freeing.{rising, blocks_for, storage_writes, freeing_tail}
use Rattle.op_steps.specs.Chained.{Chain, StepsOf, StageOf, after_writes, StandsOn, FilesStay}

-- ---- what becomes free, and where its bits stand

-- clusters of the volume, each once
pub record AreClusters (g : Geometry) (qs : List ℕ) : Type 0 where
  pub inside : (q : ℕ) → Has qs q → q < total_of g
  pub once : Once qs

-- these clusters and these file numbers, as things that are outside
abbrev pub brought : List ℕ → List ℕ → Things
brought qs ns = record { clusters = qs; numbers = map (λ n. n - 1) ns }

-- where the blocks of the storage bitmap stand that have bits of these clusters
abbrev pub storage_places : Geometry → List ℕ → List ℕ
storage_places g qs = map (λ k. place_of g (Storage k)) (blocks_for g qs)

-- these blocks, and that of the index-file bitmap
abbrev pub storage_seen : Geometry → List Block → List ℕ → List Block
storage_seen g bs qs = blocks_at bs (storage_places g qs)

abbrev pub index_seen : Geometry → List Block → Block
index_seen g bs = slice_index_or bs (place_of g IndexBitmap) []

-- clusters in rising order are the same, as far as the volume has them, each once
abbrev pub RisingClusters : Type 0
RisingClusters = (g : Geometry) (qs : List ℕ) → AreClusters g (rising g qs) × ((q : ℕ) → Has (rising g qs) q ↔ (Has qs q × (q < total_of g)))

-- ---- the storage bitmap

-- the writes of the storage bitmap, by its blocks as they stand
abbrev pub storage_freed : Geometry → Stage → List ℕ → List ℕ → List Block → List PlanWrite
storage_freed g s qs ns bs = storage_writes g s qs ns (blocks_for g qs) (storage_seen g bs qs)

-- each makes those of the clusters free that have their bits in its block, until none is left
abbrev pub StorageFrees : Type 0
StorageFrees = (g : Geometry) (s : Stage) (qs ns : List ℕ) (bs : List Block) (own : Owners) (c : Cat) → Spells g bs own c → AreClusters g qs
    → FreesInTurn g s (map (λ n. n - 1) ns) [] (map planned (storage_freed g s qs ns bs)) bs qs

-- after them the bit of each is set
abbrev pub ClustersFree : Type 0
ClustersFree = (g : Geometry) (s : Stage) (qs ns : List ℕ) (bs : List Block) (own : Owners) (c : Cat) (q : ℕ) → Spells g bs own c → AreClusters g qs → Has qs q
    → cluster_bit g (after_writes (storage_freed g s qs ns bs) bs) q ≡ true

-- ---- both bitmaps

-- the writes of both bitmaps, by their blocks as they stand
abbrev pub bitmaps_freed : Geometry → Stage → List ℕ → List ℕ → List Block → List PlanWrite
bitmaps_freed g s qs ns bs = freeing_tail g s qs ns (storage_seen g bs qs) (index_seen g bs)

-- Where a command has these clusters and numbers outside, and the slots of the numbers are free, the writes are steps, all at this
-- stage; after them it has nothing outside, and each file is as it was. So are the writes behind them that are steps on what they
-- leave.
abbrev pub FreeingSteps : End → Type 0
FreeingSteps end = (k : Chain) (s : Stage) (qs ns : List ℕ) (ws : List PlanWrite) (x : Cat) (bs : List Block) (own : Owners)
    → Spells k.geometry bs own x → Outs k.node own (brought qs ns) k.stock → HaveBlankSlots k.geometry bs (brought qs ns).numbers → StageOf k s x
    → ((new : Owners) → StandsOn k (record { clusters = []; number = None }) x (after_writes (bitmaps_freed k.geometry s qs ns bs) bs) new
    → FilesStay k.geometry bs (after_writes (bitmaps_freed k.geometry s qs ns bs) bs)
    → StepsOf end k ws (after_writes (bitmaps_freed k.geometry s qs ns bs) bs) new)
    → StepsOf end k (bitmaps_freed k.geometry s qs ns bs ++ ws) bs own

-- whatever blocks were seen, the writes are under the lock V, which guards what they touch
abbrev pub FreeingGuards : Type 0
FreeingGuards = (g : Geometry) (s : Stage) (qs ns : List ℕ) (storage : List Block) (index : Block) (base : List Block) (own : Owners) (x : Cat) (node : ℕ) (locks : List LockName) → Spells g base own x
    → Has locks V → AreNamed node locks g own (freeing_tail g s qs ns storage index)

-- what is outside after any writes may be so where V is held, and few file numbers are among it
abbrev pub HeldKeepsOut : Type 0
HeldKeepsOut = (given : Things) (locks : List LockName) (ws : List PlanWrite) → Has locks V → LeaveFew ws → KeepsOut given locks ws

-- where as many blocks were seen as have bits of the clusters, nothing is outside after the writes; and the stage is theirs
pub record FreeingEnds (g : Geometry) (s : Stage) (qs ns : List ℕ) (storage : List Block) (index : Block) : Type 0 where
  pub outs : outs_after (brought qs ns) (map planned (freeing_tail g s qs ns storage index)) ≡ nothing
  pub stage : stage_after s (map planned (freeing_tail g s qs ns storage index)) ≡ s

abbrev pub FreeingEndsSo : Type 0
FreeingEndsSo = (g : Geometry) (s : Stage) (qs ns : List ℕ) (storage : List Block) (index : Block) → AreClusters g qs → length storage ≡ length (blocks_for g qs) → FreeingEnds g s qs ns storage index
