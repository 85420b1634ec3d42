-- A stock that is given back: the bitmap blocks in which its bits are, and the writes that make all of it free.
use Rattle.std.specs.Prelude.{◌==◌, ◌&&◌, ◌++◌, not, nat_lt, ℕ, Bool, List, [], ◌∷◌, Option, Some, None, length, map, filter, find, option_map, if◌then◌else◌}
use Rattle.std.specs.List.{range_with_len, list_any}
use Rattle.base_words.specs.Fields.{Block}
use Rattle.base_words.specs.Tables.{zeros}
use Rattle.lock_db.specs.declared.name.LockName.TheVariants.{V}
use Rattle.plain_cat.specs.declared.history.Stage.TheVariants as stage
use Rattle.extent_cache.specs.Stock.{is_covered}
use Rattle.vol_parts.specs.declared.geometry.Geometry.{Geometry}
use Rattle.vol_parts.specs.declared.geometry.Part.TheVariants.{IndexBitmap, Storage}
use Rattle.vol_parts.specs.Parts.{storage_blocks}
use Rattle.vol_spell.specs.Reading.{total_of}
use Rattle.vol_spell.specs.Places.{place_of}
use Rattle.op_law.specs.declared.need.PlanWrite.{PlanWrite}
use Rattle.op_law.specs.Writing.{empty_handed, write_at}
use Rattle.op_law.specs.Freeing.{with_free, without_numbers}

-- ---- what was looked at

-- a block was looked at
abbrev pub is_seen : List (ℕ × Block) → ℕ → Bool
is_seen looked lbn = list_any (λ b. b.0 == lbn) looked

-- what was seen there, or zeros where it was not looked at
abbrev pub found_block : Option (ℕ × Block) → Block
found_block None = zeros
found_block (Some b) = b.1

abbrev pub block_seen : List (ℕ × Block) → ℕ → Block
block_seen looked lbn = found_block (find (λ b. b.0 == lbn) looked)

-- ---- the looks: the index-file bitmap where numbers are held, and then the storage bitmap where clusters are, rising

-- some of these clusters have their bits in block k of the storage bitmap
abbrev pub has_covered : List ℕ → ℕ → Bool
has_covered cs k = list_any (λ c. is_covered k c) cs

-- and that block was not looked at
abbrev pub is_wanting : Geometry → List ℕ → List (ℕ × Block) → ℕ → Bool
is_wanting g cs looked k = has_covered cs k && not (is_seen looked (place_of g (Storage k)))

-- the blocks of the storage bitmap, counted from 0
abbrev pub storage_range : Geometry → List ℕ
storage_range g = range_with_len 0 (storage_blocks (total_of g))

abbrev pub clusters_place : Geometry → List ℕ → List (ℕ × Block) → Option ℕ
clusters_place g cs looked = option_map (λ k. place_of g (Storage k)) (find (is_wanting g cs looked) (storage_range g))

-- the next block to be looked at before a stock of these clusters and numbers goes back
unfoldable pub give_place : Geometry → List ℕ → List ℕ → List (ℕ × Block) → Option ℕ
give_place g cs ns looked =
    if nat_lt 0 (length ns) && not (is_seen looked (place_of g IndexBitmap)) then Some (place_of g IndexBitmap)
    else clusters_place g cs looked

-- ---- the writes

-- the write that makes all numbers free
abbrev pub numbers_back : Geometry → List ℕ → List (ℕ × Block) → PlanWrite
numbers_back g ns looked = write_at V (place_of g IndexBitmap) (without_numbers (block_seen looked (place_of g IndexBitmap)) ns) stage.Nothing empty_handed

-- the write that makes those clusters free that have their bits in block k
abbrev pub clusters_back : Geometry → List ℕ → List (ℕ × Block) → ℕ → PlanWrite
clusters_back g cs looked k =
    write_at V (place_of g (Storage k)) (with_free (block_seen looked (place_of g (Storage k))) (filter (λ c. is_covered k c) cs)) stage.Nothing empty_handed

-- of the index-file bitmap, where there are numbers
abbrev pub index_back : Geometry → List ℕ → List (ℕ × Block) → List PlanWrite
index_back g ns looked = if nat_lt 0 (length ns) then numbers_back g ns looked ∷ [] else []

-- the index-file bitmap comes first
unfoldable pub give_writes : Geometry → List ℕ → List ℕ → List (ℕ × Block) → List PlanWrite
give_writes g cs ns looked =
    index_back g ns looked ++ map (clusters_back g cs looked) (filter (has_covered cs) (storage_range g))
