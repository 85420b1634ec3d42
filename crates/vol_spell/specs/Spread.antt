-- Blocks at a list of places, and the places of clusters.
use Rattle.std.specs.Prelude.{◌≡◌, ◌≤◌, ◌<◌, ◌+◌, ◌*◌, ◌/◌, ◌++◌, ◌↔◌, ℕ, List, [], Some, length, map, slice_get, slice_set, slice_index_or}
use Rattle.std.specs.List.{range_with_len, flat_map, zip}
use Rattle.base_words.specs.Fields.{Block}
use Rattle.base_words.specs.Lists.{Has, Once, written, Touches, StandsIn}

-- the blocks at these places, in their order, with an empty one where there is none
abbrev pub blocks_at : List Block → List ℕ → List Block
blocks_at bs ls = map (λ l. slice_index_or bs l []) ls

-- the places of the blocks of these clusters, in order, with so many blocks in each cluster
abbrev pub spread : ℕ → List ℕ → List ℕ
spread factor clusters = flat_map (λ q. range_with_len (q * factor) factor) clusters

-- a block that is set elsewhere leaves the blocks at these places
abbrev pub BlocksStay : Type 0
BlocksStay = (bs : List Block) (l : ℕ) (b : Block) (ls : List ℕ) → (Has ls l → ⊥) → blocks_at (slice_set bs l b) ls ≡ blocks_at bs ls

-- a block that is set at the place v of these, each of which is listed once, is set as the block v among those at them
abbrev pub BlocksSet : Type 0
BlocksSet = (bs : List Block) (l : ℕ) (b : Block) (ls : List ℕ) (v : ℕ) → slice_get ls v ≡ Some l → Once ls → l < length bs → blocks_at (slice_set bs l b) ls ≡ slice_set (blocks_at bs ls) v b

-- a block is one of these clusters' exactly where the cluster that it lies in is one of these
abbrev pub InSpread : Type 0
InSpread = (factor : ℕ) (clusters : List ℕ) (l : ℕ) → 1 ≤ factor → Has (spread factor clusters) l ↔ Has clusters (l / factor)

-- clusters that are listed once have no block twice
abbrev pub SpreadOnce : Type 0
SpreadOnce = (factor : ℕ) (clusters : List ℕ) → Once clusters → Once (spread factor clusters)

-- the blocks at places in a row are those at the first ones and then those at the others
abbrev pub BlocksJoined : Type 0
BlocksJoined = (bs : List Block) (ls ks : List ℕ) → blocks_at bs (ls ++ ks) ≡ blocks_at bs ls ++ blocks_at bs ks

-- writes to other places leave the blocks at these
abbrev pub BlocksKept : Type 0
BlocksKept = (ws : List (ℕ × Block)) (bs : List Block) (ls : List ℕ) → ((l : ℕ) → Touches ws l → Has ls l → ⊥) → blocks_at (written ws bs) ls ≡ blocks_at bs ls

-- blocks that were seen at these places are the blocks at them
abbrev pub BlocksSeen : Type 0
BlocksSeen = (bs : List Block) (ls : List ℕ) (seen : List Block) → length seen ≡ length ls → StandsIn bs (zip ls seen) → blocks_at bs ls ≡ seen

-- blocks that are written to these places, each place once, are the blocks at them
abbrev pub BlocksWritten : Type 0
BlocksWritten = (bs : List Block) (ls : List ℕ) (body : List Block) → Once ls → length body ≡ length ls → ((l : ℕ) → Has ls l → l < length bs) → blocks_at (written (zip ls body) bs) ls ≡ body

-- the places of clusters in a row are those of the first ones and then those of the others
abbrev pub SpreadJoined : Type 0
SpreadJoined = (factor : ℕ) (cs ds : List ℕ) → spread factor (cs ++ ds) ≡ spread factor cs ++ spread factor ds

-- each cluster has its number of places, one after another
pub record SpreadPlaces : Type 0 where
  pub count : (factor : ℕ) (clusters : List ℕ) → length (spread factor clusters) ≡ length clusters * factor
  pub each : (factor : ℕ) (clusters : List ℕ) (k r q : ℕ) → r < factor → slice_get clusters k ≡ Some q → slice_get (spread factor clusters) (k * factor + r) ≡ Some (q * factor + r)
