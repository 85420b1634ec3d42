-- Which blocks of a volume are written when it is made, and what each of them says.
use Rattle.std.specs.Prelude.{◌≡◌, ◌≤◌, ◌<◌, ◌+◌, ◌*◌, ◌-◌, ◌==◌, ◌&&◌, nat_le, nat_lt, ℕ, Bool, List, [], Option, Some, None, Ok, slice_get, if◌then◌else◌}
use Rattle.base_words.specs.Fields.{Block, put_field, summed}
use Rattle.fx_home.specs.declared.home.Home.{Home}
use Rattle.base_words.specs.Tables.{zeros}
use Rattle.fx_home.specs.Homes.{home_bytes, with_sum1, scb_read, scb_bytes}
use Rattle.fx_header.specs.declared.slot.Slot.TheVariants.{Used, Free}
use Rattle.fx_header.specs.Headers.{header_read, runs_in, header_bytes, with_runs, freed}
use Rattle.fx_bitmap.specs.Bits.{bit_at}
use Rattle.fx_quota.specs.Rows.{row_put}
use Rattle.vol_parts.specs.Parts.{storage_blocks, is_among}
use Rattle.vol_parts.specs.Volumes.{rows_in}
use Rattle.vol_init.specs.declared.layout.Layout.{Layout}
use Rattle.vol_init.specs.Layouts.{total, reserved_clusters, first_cluster, header_of, text_of, runs_of, system_row, user_row, quota_rows}
use Rattle.vol_init.specs.declared.part.Part.{Part}
use Rattle.vol_init.specs.declared.part.Part.TheVariants.{HomeCopy, HeaderCopy, Numbers, Header, Control, Storage, Main, Lost, Quota}

-- the first block of the system file of a number, where it has one
abbrev pub first_block : Layout → ℕ → ℕ
first_block l n = l.cluster * first_cluster l n

-- Which part a block is, or none where it is no part or the home block. The copies begin clusters 2 and 3, the index-file
-- bitmap and the headers follow from cluster 4 on, and the other files lie where they begin.
unfoldable pub part_of : Layout → ℕ → Option Part
part_of l lbn =
    if lbn == 2 * l.cluster then Some HomeCopy
    else if lbn == 3 * l.cluster then Some HeaderCopy
    else if lbn == 4 * l.cluster then Some Numbers
    else if is_among (4 * l.cluster + 1) l.files lbn then Some (Header (lbn - 4 * l.cluster))
    else if lbn == first_block l 2 then Some Control
    else if is_among (first_block l 2 + 1) (storage_blocks (total l)) lbn then Some (Storage (lbn - (first_block l 2 + 1)))
    else if is_among (first_block l 4) l.cluster lbn then Some (Main (lbn - first_block l 4))
    else if is_among (first_block l 11) l.cluster lbn then Some (Lost (lbn - first_block l 11))
    else if is_among (first_block l 10) l.cluster lbn then Some (Quota (lbn - first_block l 10))
    else None

-- the number of a part is one that a volume has
abbrev pub IsInside : Layout → Part → Type 0
IsInside l HomeCopy = Unit {0}
IsInside l HeaderCopy = Unit {0}
IsInside l Numbers = Unit {0}
IsInside l (Header n) = (1 ≤ n) × (n ≤ l.files)
IsInside l Control = Unit {0}
IsInside l (Storage k) = k < 16
IsInside l (Main k) = k < l.cluster
IsInside l (Lost k) = k < l.cluster
IsInside l (Quota k) = k < l.cluster

-- a cluster is behind those of the system files
abbrev pub is_free : Layout → ℕ → Bool
is_free l q = nat_le (reserved_clusters l) q && nat_lt q (total l)

-- the copy of a home block: its bytes with the copy's own LBN, 4 bytes at 0, and VBN, 2 bytes at 16, and both checksums
-- written again
unfoldable pub home_copy_bytes : Home → Block
home_copy_bytes h = summed (with_sum1 (put_field (put_field (home_bytes h) 0 4 (2 * h.cluster)) 16 2 (2 * h.cluster + 1)))

-- the header of a system file, which stands in the master file directory, file 4
unfoldable pub header_block : Layout → ℕ → Block
header_block l n = with_runs (header_bytes (header_of l n) (text_of n) (4, 4)) (runs_of l n)

-- the storage control block: the level, the cluster factor, the blocks of the volume and the checksum, and zeros elsewhere
abbrev pub control_block : Layout → Block
control_block l = scb_bytes (record { cluster = l.cluster; blocks = l.blocks })

-- A block of QUOTA.SYS, counted from 0. The first has [1,1] in its first row and [1,4] in its second, and zeros behind them;
-- the others are zeros.
unfoldable pub quota_block : Layout → ℕ → Block
quota_block l k = if k == 0 then row_put (row_put zeros 0 (system_row l)) 1 (user_row l) else zeros

-- the storage control block is this one, and is read
pub record SaysControl (l : Layout) (b : Block) : Type 0 where
  pub bytes : b ≡ control_block l
  pub reads : scb_read b ≡ Ok (record { cluster = l.cluster; blocks = l.blocks })

-- a block of QUOTA.SYS is this one, and its active rows are the two, or none
pub record SaysQuota (l : Layout) (k : ℕ) (b : Block) : Type 0 where
  pub bytes : b ≡ quota_block l k
  pub rows : rows_in b ≡ (if k == 0 then quota_rows l else [])

-- a header slot is that of a system file, or of no file so far
pub record SaysHeader (l : Layout) (n : ℕ) (b : Block) : Type 0 where
  pub written : n ≤ 11 → b ≡ header_block l n
  pub used : n ≤ 11 → header_read b ≡ Ok (Used (header_of l n))
  pub lies : n ≤ 11 → runs_in b ≡ runs_of l n
  pub freed : 11 < n → b ≡ freed 0
  pub free : 11 < n → header_read b ≡ Ok (Free 0)

-- what the block of a part says, with this home block and these blocks of the two directories
abbrev pub Says : Layout → Home → (main lost : List Block) → Part → Block → Type 0
Says l h main lost HomeCopy b = b ≡ home_copy_bytes h
Says l h main lost HeaderCopy b = b ≡ header_block l 1
Says l h main lost Numbers b = (i : ℕ) → i < 4096 → bit_at b i ≡ nat_lt i 11
Says l h main lost (Header n) b = SaysHeader l n b
Says l h main lost Control b = SaysControl l b
Says l h main lost (Storage k) b = (i : ℕ) → i < 4096 → bit_at b i ≡ is_free l (4096 * k + i)
Says l h main lost (Main k) b = slice_get main k ≡ Some b
Says l h main lost (Lost k) b = slice_get lost k ≡ Some b
Says l h main lost (Quota k) b = SaysQuota l k b
