-- A stock that is not enough is filled from the bitmaps: what is taken there, and the writes that take it.
use Rattle.std.specs.Prelude.{◌+◌, ◌-◌, ◌&&◌, ◌||◌, ◌++◌, not, min, nat_le, nat_lt, ℕ, Bool, true, false, List, [], ◌∷◌, Option, Some, None, length, map, filter, take, drop, if◌then◌else◌}
use Rattle.std.specs.List.{range_with_len, fold}
use Rattle.base_words.specs.Fields.{Block}
use Rattle.fx_bitmap.specs.Bits.{bit_at, bits_put}
use Rattle.lock_db.specs.declared.name.LockName.TheVariants.{V}
use Rattle.plain_cat.specs.declared.history.Stage.TheVariants as stage
use Rattle.vol_parts.specs.declared.geometry.Geometry.{Geometry}
use Rattle.vol_parts.specs.declared.geometry.Part.TheVariants.{IndexBitmap, Storage}
use Rattle.vol_parts.specs.Parts.{storage_blocks}
use Rattle.vol_spell.specs.Reading.{total_of}
use Rattle.vol_spell.specs.Places.{place_of}
use Rattle.op_law.specs.declared.need.PlanWrite.{PlanWrite}
use Rattle.op_law.specs.Writing.{empty_handed, write_at, with_numbers}
use Rattle.core_space.specs.Searching.{free_from, cluster_writes}

-- ---- how much it is to take

-- so many clusters, and so many file numbers, are taken beyond the need, where there are as many
abbrev pub spare_clusters : ℕ
spare_clusters = 16

abbrev pub spare_numbers : ℕ
spare_numbers = 8

-- how many clusters a stock that holds so many is to take: none where it holds what is needed, else so many that it has all the
-- spare ones too
abbrev pub clusters_to_take : ℕ → ℕ → ℕ
clusters_to_take need held = if nat_le need held then 0 else need + spare_clusters - held

-- a number is needed, and the stock holds none
abbrev pub lacks_number : Bool → List ℕ → Bool
lacks_number needed ns = needed && not (nat_lt 0 (length ns))

-- ---- the looks: the index-file bitmap where a number is lacking, and then the storage bitmap from its first block on

-- of the blocks looked at, those of the storage bitmap
abbrev pub storage_part : Bool → List Block → List Block
storage_part false bs = bs
storage_part true bs = drop 1 bs

-- the next block of the storage bitmap, where in these too few are free and there is one more
abbrev pub storage_place : Geometry → ℕ → List Block → Option ℕ
storage_place g wanted bs =
    if nat_lt (length (free_from g 0 bs)) wanted && nat_lt (length bs) (storage_blocks (total_of g)) then Some (place_of g (Storage (length bs)))
    else None

-- where the stock takes so many clusters, and lacks a number or not
abbrev pub fill_place : Geometry → ℕ → Bool → List Block → Option ℕ
fill_place g wanted false bs = storage_place g wanted bs
fill_place g wanted true [] = Some (place_of g IndexBitmap)
fill_place g wanted true (index ∷ bs) = storage_place g wanted bs

-- ---- what is taken: the lowest

-- the numbers of the volume whose bits are clear, rising
unfoldable pub free_numbers : Geometry → Block → List ℕ
free_numbers g b = filter (λ n. not (bit_at b (n - 1))) (range_with_len 1 g.files)

-- one and the spare ones
abbrev pub lowest_numbers : Geometry → Block → List ℕ
lowest_numbers g b = take (1 + spare_numbers) (free_numbers g b)

-- the numbers that are taken: none where none is lacking
abbrev pub numbers_taken : Geometry → Bool → List Block → List ℕ
numbers_taken g false bs = []
numbers_taken g true [] = []
numbers_taken g true (index ∷ bs) = lowest_numbers g index

-- how many clusters are taken: as many as are to be, or as there are
abbrev pub clusters_taken : Geometry → ℕ → List Block → ℕ
clusters_taken g wanted bs = min wanted (length (free_from g 0 bs))

-- ---- the writes

-- a block of the index-file bitmap in which the bits of these numbers are set
unfoldable pub with_used : Block → List ℕ → Block
with_used b ns = fold (λ c n. bits_put c (n - 1) 1 true) b ns

-- the write that takes these numbers
abbrev pub numbers_write : Geometry → Block → List ℕ → PlanWrite
numbers_write g b ns = with_numbers ns (write_at V (place_of g IndexBitmap) (with_used b ns) stage.Nothing empty_handed)

-- of the index-file bitmap, where a number was lacking
abbrev pub index_writes : Geometry → Bool → List Block → List PlanWrite
index_writes g true (index ∷ bs) = numbers_write g index (lowest_numbers g index) ∷ []
index_writes g lacks bs = []

-- of the storage bitmap, behind the write that took these numbers. Each says what was taken by then.
abbrev pub storage_writes : Geometry → ℕ → List ℕ → List Block → List PlanWrite
storage_writes g count ns bs = map (with_numbers ns) (cluster_writes g count None [] 0 bs)

-- the index-file bitmap comes first
unfoldable pub fill_writes : Geometry → ℕ → Bool → List Block → List PlanWrite
fill_writes g wanted lacks bs =
    index_writes g lacks bs ++ storage_writes g (clusters_taken g wanted (storage_part lacks bs)) (numbers_taken g lacks bs) (storage_part lacks bs)

-- ---- whether it does

-- a number is there, where one is lacking, and with what is held there are as many clusters as are needed
abbrev pub suffices : Geometry → ℕ → ℕ → Bool → List Block → Bool
suffices g need held lacks bs =
    (not lacks || nat_lt 0 (length (numbers_taken g lacks bs))) && nat_le need (held + length (free_from g 0 (storage_part lacks bs)))

-- the writes that fill the stock once all is looked at, or None where there is too little
unfoldable pub filled : Geometry → ℕ → ℕ → Bool → List Block → Option (List PlanWrite)
filled g need held lacks bs = if suffices g need held lacks bs then Some (fill_writes g (clusters_to_take need held) lacks bs) else None
