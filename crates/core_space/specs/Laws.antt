-- The laws of the rules for space.
use Rattle.std.specs.Prelude.{◌≡◌, ◌≤◌, ◌<◌, ◌-◌, ◌+◌, ◌⊎◌, ◌↔◌, ◌++◌, not, ℕ, zero, suc, Bool, true, List, [], Option, Some, None, length, map, filter, slice_get}
use Rattle.base_words.specs.Fields.{Block}
use Rattle.lock_db.specs.declared.name.LockName.TheVariants.{V}
use Rattle.plain_cat.specs.declared.history.Stage.TheVariants as stage
use Rattle.plain_cat.specs.declared.mode.Mode.TheVariants.{PW, EX}
use Rattle.plain_cat.specs.declared.reply.Refusal.{Refusal}
use Rattle.plain_cat.specs.declared.reply.Refusal.TheVariants.{DeviceFull}
use Rattle.plain_cat.specs.declared.cat.Cat.{Cat}
use Rattle.extent_cache.specs.Stock.{Stock, is_covered, merged}
use Rattle.base_words.specs.Lists.{Has, Once}
use Rattle.vol_spell.specs.Owners.{Owners, Things, nothing, Outs}
use Rattle.vol_parts.specs.declared.geometry.Geometry.{Geometry}
use Rattle.vol_parts.specs.declared.geometry.Part.TheVariants.{IndexBitmap, Storage}
use Rattle.vol_parts.specs.Parts.{IsGeometry}
use Rattle.vol_spell.specs.Places.{place_of, IsPart}
use Rattle.vol_spell.specs.Spelling.{AreBlank, Spells}
use Rattle.vol_under.specs.UnderWay.{together}
use Rattle.vol_under.specs.Keeping.{Refills, IsBitmap}
use Rattle.vol_under.specs.Refilling.{AreTaken, AreNumbersTaken}
use Rattle.op_law.specs.declared.need.PlanWrite.{PlanWrite}
use Rattle.core_space.specs.Searching.{Short, places, free_from, found}
use Rattle.core_space.specs.Answering.{blocks_alone}
use Rattle.core_space.specs.Taking.{looked}
use Rattle.core_space.specs.declared.run.Phase.TheVariants.{Last}
use Rattle.core_space.specs.declared.run.SpaceRun.{SpaceRun}
use Rattle.core_space.specs.declared.run.SpaceNeed.{SpaceNeed}
use Rattle.core_space.specs.declared.event.SpaceEvent.TheVariants as event
use Rattle.core_space.specs.Filling.{spare_clusters, spare_numbers, clusters_to_take, storage_part, numbers_taken, clusters_taken, filled}
use Rattle.core_space.specs.Giving.{block_seen, has_covered, numbers_back, clusters_back}
use Rattle.core_space.specs.Rule.{SpaceState, space_event, space_decision}

-- ---- things

-- the place of each file number
abbrev pub places_of : List ℕ → List ℕ
places_of ns = map (λ n. n - 1) ns

-- clusters, and file numbers by their places
abbrev pub things_of : List ℕ → List ℕ → Things
things_of cs ns = record { clusters = cs; numbers = places_of ns }

-- what a filling has taken with a write, and before the write behind the first k
abbrev pub taken_with : Option PlanWrite → Things
taken_with None = nothing
taken_with (Some w) = things_of w.clusters w.numbers

abbrev pub taken_before : List PlanWrite → ℕ → Things
taken_before ws zero = nothing
taken_before ws (suc k) = taken_with (slice_get ws k)

-- ---- the looks

-- each block that is looked at is one of those that a search of all free space may look at: a bitmap's
abbrev pub LooksAtBitmaps : Type 0
LooksAtBitmaps = (s : SpaceState) (need : SpaceNeed) (lbn : ℕ) → space_event s need ≡ event.Look lbn → Has (places s.geometry 1 true) lbn

-- ---- the writes of a filling

-- From where a filling has taken this, w takes file numbers of the index-file bitmap, of which this was the block.
pub record TakesNumbersOf (g : Geometry) (out : Things) (old : Block) (w : PlanWrite) : Type 0 where
  pub taken : List ℕ
  pub place : w.lbn ≡ place_of g IndexBitmap
  pub free : AreNumbersTaken g taken old w.block
  pub numbers : places_of w.numbers ≡ out.numbers ++ taken
  pub clusters : w.clusters ≡ out.clusters

-- It takes clusters of a block of the storage bitmap, of which this was the block.
pub record TakesClustersOf (g : Geometry) (out : Things) (old : Block) (w : PlanWrite) : Type 0 where
  pub part : ℕ
  pub taken : List ℕ
  pub inside : IsPart g (Storage part)
  pub place : w.lbn ≡ place_of g (Storage part)
  pub free : AreTaken g part taken old w.block
  pub numbers : places_of w.numbers ≡ out.numbers
  pub clusters : w.clusters ≡ out.clusters ++ taken

-- A write of a filling: under V, to a block that was looked at, it takes numbers or clusters that are free there.
pub record IsFilling (g : Geometry) (seen : List (ℕ × Block)) (out : Things) (w : PlanWrite) : Type 0 where
  pub lock : w.lock ≡ V
  pub stage : w.stage ≡ stage.Nothing
  pub old : Block
  pub among : Has seen (w.lbn, old)
  pub takes : TakesNumbersOf g out old w ⊎ TakesClustersOf g out old w

-- Each write of a filling is one.
abbrev pub WritesFill : Type 0
WritesFill = (g : Geometry) (need held : ℕ) (lacks : Bool) (bs : List Block) (ws : List PlanWrite) (k : ℕ) (w : PlanWrite) → IsGeometry g → filled g need held lacks bs ≡ Some ws → slice_get ws k ≡ Some w
    → IsFilling g (looked g 1 lacks bs) (taken_before ws k) w

-- On all blocks in which the block stands that was looked at, such a write is one of a bitmap, which takes what is free to the
-- node's stock: so each cluster and number is still in one place.
abbrev pub FillingsRefill : Type 0
FillingsRefill = (g : Geometry) (seen : List (ℕ × Block)) (out : Things) (w : PlanWrite) (t : IsFilling g seen out w) (n : ℕ) (took stock : Things) (base : List Block) (own : Owners) (c : Cat) → Spells g base own c
    → Outs n own took (together stock out) → slice_get base w.lbn ≡ Some t.old → IsBitmap g w.lbn × Refills g n took (together stock (things_of w.clusters w.numbers)) w.lbn w.block base own c

-- A stock that takes all of these, each once, has what it held and these, each once.
abbrev pub StocksTakeAll : Type 0
StocksTakeAll = (xs held : List ℕ) → Once (xs ++ held) → Once (merged xs held) × ((q : ℕ) → Has (merged xs held) q ↔ Has (xs ++ held) q)

-- ---- how much a filling takes

-- With what it takes the stock has what is needed, and at most so many spare ones.
pub record IsEnough (g : Geometry) (need held : ℕ) (lacks : Bool) (bs : List Block) : Type 0 where
  pub clusters : need ≤ held + clusters_taken g (clusters_to_take need held) (storage_part lacks bs)
  pub spare : (clusters_taken g (clusters_to_take need held) (storage_part lacks bs) ≡ 0) ⊎ (held + clusters_taken g (clusters_to_take need held) (storage_part lacks bs) ≤ need + spare_clusters)
  pub number : lacks ≡ true → 1 ≤ length (numbers_taken g lacks bs)
  pub few : length (numbers_taken g lacks bs) ≤ 1 + spare_numbers

abbrev pub FillsEnough : Type 0
FillsEnough = (g : Geometry) (need held : ℕ) (lacks : Bool) (bs : List Block) (ws : List PlanWrite) → filled g need held lacks bs ≡ Some ws → IsEnough g need held lacks bs

-- what is free and not taken is above all that is taken
abbrev pub AreLowest : List ℕ → List ℕ → Type 0
AreLowest taken free = (p q : ℕ) → Has taken p → Has free q → (Has taken q → ⊥) → p < q

-- What it takes is the lowest of what is free in the blocks looked at.
abbrev pub TakesLowest : Type 0
TakesLowest = (g : Geometry) (need held : ℕ) (lacks : Bool) (bs : List Block) (ws : List PlanWrite) → filled g need held lacks bs ≡ Some ws
    → AreLowest (taken_before ws (length ws)).clusters (free_from g 0 (storage_part lacks bs))

-- ---- the writes of a give-back

-- Where the block of the index-file bitmap stands that was looked at, and the slots of all numbers outside are free, the write of a
-- give-back makes all numbers of the stock free.
abbrev pub NumbersGoBack : Type 0
NumbersGoBack = (g : Geometry) (cs ns : List ℕ) (looked : List (ℕ × Block)) (n : ℕ) (took : Things) (base : List Block) (own : Owners) (c : Cat) → 0 < length ns → Spells g base own c → AreBlank g base own → Outs n own took (things_of cs ns)
    → slice_get base (place_of g IndexBitmap) ≡ Some (block_seen looked (place_of g IndexBitmap))
    → Refills g n took (things_of cs []) (numbers_back g ns looked).lbn (numbers_back g ns looked).block base own c

-- Where a block of the storage bitmap stands that was looked at, its write makes those clusters of the stock free that have their
-- bits in it, and the others stay.
abbrev pub ClustersGoBack : Type 0
ClustersGoBack = (g : Geometry) (cs ns : List ℕ) (looked : List (ℕ × Block)) (k : ℕ) (n : ℕ) (took : Things) (base : List Block) (own : Owners) (c : Cat) → IsPart g (Storage k) → has_covered cs k ≡ true → Spells g base own c → Outs n own took (things_of cs ns)
    → slice_get base (place_of g (Storage k)) ≡ Some (block_seen looked (place_of g (Storage k)))
    → Refills g n took (things_of (filter (λ q. not (is_covered k q)) cs) ns) (clusters_back g cs looked k).lbn (clusters_back g cs looked k).block base own c

-- ---- shortage

-- A need is refused by the search of all free space alone: under X in EX, so that no other node has a stock, and V in PW.
pub record IsRefusedLast (s : SpaceState) (need : SpaceNeed) (r : Refusal) : Type 0 where
  pub last : s.run.phase ≡ Last
  pub alone : s.locks.x ≡ Some EX
  pub writer : s.locks.v ≡ Some PW
  pub made : slice_get s.run.writes s.run.made ≡ None
  pub short : found s.geometry need.clusters need.number (blocks_alone s.run.looked) ≡ Short r

abbrev pub RefusedLast : Type 0
RefusedLast = (s : SpaceState) (need : SpaceNeed) (r : Refusal) → space_event s need ≡ event.Short r → IsRefusedLast s need r

-- so it is where it is decided
abbrev pub DecidedLast : Type 0
DecidedLast = (g : Geometry) (run : SpaceRun) (stock : Stock) (need : SpaceNeed) (r : Refusal) → (space_decision g run stock need).short ≡ Some r
    → (run.phase ≡ Last) × (found g need.clusters need.number (blocks_alone run.looked) ≡ Short r)

-- A device is full only after all blocks of the bitmaps were looked at that the search may look at.
abbrev pub FullIsWhole : Type 0
FullIsWhole = (g : Geometry) (clusters : ℕ) (number : Bool) (bs : List Block) → found g clusters number bs ≡ Short DeviceFull → length (places g clusters number) ≤ length bs
