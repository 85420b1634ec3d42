-- The home block, which tells where everything else of a volume is, and the storage control block, which stands in
-- front of the storage bitmap.
use Rattle.std.specs.Prelude.{◌+◌, ◌*◌, ◌/◌, ◌≤◌, ◌==◌, ◌&&◌, not, nat_le, ℕ, List, [], ◌∷◌, codes, slice_range, if◌then◌else◌, Result, Ok, Err, Bool}
use Rattle.std.specs.Str.{bytes_eq}
use Rattle.base_words.specs.Fields.{Block, field, put, put_field, checksum, summed, has_sum, has_sum as has_scb_sum}
use Rattle.base_words.specs.Tables.{Table, laid, zeros}
use Rattle.fx_home.specs.declared.home.Home.{Home}
use Rattle.fx_home.specs.declared.home.HomeFault.{HomeFault}
use Rattle.fx_home.specs.declared.home.HomeFault.TheVariants.{BadFormat, BadLevel, BadSum1, BadSum2, BadCluster, BadFiles, BadLayout}
use Rattle.fx_home.specs.declared.scb.Scb.{Scb}
use Rattle.fx_home.specs.declared.scb.ScbFault.{ScbFault}
use Rattle.fx_home.specs.declared.scb.ScbFault.TheVariants.{BadLevel as BadScbLevel, BadSum as BadScbSum}

-- a volume has 1 to 16 blocks in a cluster and 32 to 4,096 files
pub record IsWithinLimits (h : Home) : Type 0 where
  pub cluster_low : 1 ≤ h.cluster
  pub cluster_high : h.cluster ≤ 16
  pub files_low : 32 ≤ h.files
  pub files_high : h.files ≤ 4096

-- the name of the format
abbrev pub format_name : List ℕ
format_name = codes "DECFILE11B  "

-- the format is named: FORMAT, 12 bytes at offset 496
unfoldable pub has_format : Block → Bool
has_format b = bytes_eq (slice_range b 496 508) format_name

-- the structure level, in the high byte, is 2: STRUCLEV, 2 bytes at 12
unfoldable pub has_level : Block → Bool
has_level b = field b 12 2 / 256 == 2

-- the first checksum is the sum of the 29 words in front of it: CHECKSUM1, 2 bytes at 58
unfoldable pub has_sum1 : Block → Bool
has_sum1 b = field b 58 2 == checksum b 29

-- a cluster has 1 to 16 blocks: CLUSTER, 2 bytes at 14
unfoldable pub has_cluster : Block → Bool
has_cluster b = nat_le 1 (field b 14 2) && nat_le (field b 14 2) 16

-- there are 32 to 4,096 files: MAXFILES, 4 bytes at 28
unfoldable pub has_files : Block → Bool
has_files b = nat_le 32 (field b 28 4) && nat_le (field b 28 4) 4096

-- The home block stands in LBN 1, and the index-file bitmap is the one block behind the first four clusters: HOMELBN, 4
-- bytes at 0, IBMAPVBN, 2 at 22, IBMAPLBN, 4 at 24, and IBMAPSIZE, 2 at 32.
unfoldable pub has_layout : Block → Bool
has_layout b =
    let bitmap = 4 * field b 14 2 in
    field b 0 4 == 1 && field b 22 2 == bitmap + 1 && field b 24 4 == bitmap && field b 32 2 == 1

-- what a home block says; the label is VOLNAME, 12 bytes at 472
unfoldable pub home_in : Block → Home
home_in b = record { cluster = field b 14 2; files = field b 28 4; label = slice_range b 472 484 }

-- a home block is read, or the first of its faults
unfoldable pub home_read : Block → Result Home HomeFault
home_read b =
    if not (has_format b) then Err BadFormat
    else if not (has_level b) then Err BadLevel
    else if not (has_sum1 b) then Err BadSum1
    else if not (has_sum b) then Err BadSum2
    else if not (has_cluster b) then Err BadCluster
    else if not (has_files b) then Err BadFiles
    else if not (has_layout b) then Err BadLayout
    else Ok (home_in b)

-- The fields of a home block in front of its first checksum, by offset, length and value: HOMELBN, ALHOMELBN and ALTIDXLBN;
-- STRUCLEV and CLUSTER; HOMEVBN, ALHOMEVBN and ALTIDXVBN; IBMAPVBN and IBMAPLBN; MAXFILES, IBMAPSIZE and RESFILES.
unfoldable pub home_table : Home → Table
home_table h =
    (0, 4, 1) ∷ (4, 4, 2 * h.cluster) ∷ (8, 4, 3 * h.cluster)
    ∷ (12, 2, 513) ∷ (14, 2, h.cluster)
    ∷ (16, 2, 2) ∷ (18, 2, 2 * h.cluster + 1) ∷ (20, 2, 3 * h.cluster + 1)
    ∷ (22, 2, 4 * h.cluster + 1) ∷ (24, 4, 4 * h.cluster)
    ∷ (28, 4, h.files) ∷ (32, 2, 1) ∷ (34, 2, 9) ∷ []

-- the block with its first checksum, CHECKSUM1
unfoldable pub with_sum1 : Block → Block
with_sum1 b = put_field b 58 2 (checksum b 29)

-- the block with a label, VOLNAME
unfoldable pub with_label : List ℕ → Block → Block
with_label label b = put b 472 label

-- the block with the name of the format, FORMAT
unfoldable pub with_format : Block → Block
with_format b = put b 496 format_name

-- a home block: its fields, its first checksum, the label, the name of the format and the second checksum
unfoldable pub home_bytes : Home → Block
home_bytes h = summed (with_format (with_label h.label (with_sum1 (laid (home_table h) zeros))))

-- the structure level of a storage control block is 2: STRUCLEV, 2 bytes at 0
unfoldable pub has_scb_level : Block → Bool
has_scb_level b = field b 0 2 / 256 == 2

-- A storage control block is read, or the first of its faults. The cluster factor has 2 bytes at 2, and the blocks of the
-- volume 4 bytes at 4.
unfoldable pub scb_read : Block → Result Scb ScbFault
scb_read b =
    if not (has_scb_level b) then Err BadScbLevel
    else if not (has_scb_sum b) then Err BadScbSum
    else Ok (record { cluster = field b 2 2; blocks = field b 4 4 })

-- the fields of a storage control block: the level, the cluster factor and the blocks of the volume
unfoldable pub scb_table : Scb → Table
scb_table s = (0, 2, 513) ∷ (2, 2, s.cluster) ∷ (4, 4, s.blocks) ∷ []

-- a storage control block: its fields and the checksum
unfoldable pub scb_bytes : Scb → Block
scb_bytes s = summed (laid (scb_table s) zeros)
