-- Where the system files of a fresh volume lie, and the catalogue that it has.
use Rattle.std.specs.Prelude.{◌≤◌, ◌+◌, ◌*◌, ◌-◌, ◌/◌, ◌==◌, ◌||◌, ◌++◌, ℕ, false, List, [], ◌∷◌, None, codes, slice_index_or, map, replicate, if◌then◌else◌}
use Rattle.std.specs.List.{range_with_len}
use Rattle.fx_header.specs.declared.run.Run.{Run}
use Rattle.fx_header.specs.declared.slot.Hdr.{Hdr}
use Rattle.fx_dir.specs.declared.RawEnt.{RawEnt}
use Rattle.fx_quota.specs.declared.types.Row.{Row}
use Rattle.plain_cat.specs.declared.entries.DirEnt.{DirEnt}
use Rattle.plain_cat.specs.declared.cat.Slot.{Slot}
use Rattle.plain_cat.specs.declared.cat.Slot.TheVariants.{Used, Free}
use Rattle.plain_cat.specs.declared.cat.Cat.{Cat}
use Rattle.plain_rules.specs.Mending.{system_names}
use Rattle.vol_parts.specs.Parts.{storage_blocks}
use Rattle.vol_parts.specs.Fatal.{in_whole_clusters}
use Rattle.plain_rules.specs.SystemFiles.{system_seq}
use Rattle.plain_rules.specs.SystemFiles.{is_system_directory}
use Rattle.vol_parts.specs.Catalogues.{plain_entry, quota_row}
use Rattle.vol_init.specs.declared.layout.Layout.{Layout}

-- a layout within the limits of a volume
pub record IsLayout (l : Layout) : Type 0 where
  pub cluster_low : 1 ≤ l.cluster
  pub cluster_high : l.cluster ≤ 16
  pub files_low : 32 ≤ l.files
  pub files_high : l.files ≤ 4096
  pub blocks_low : 64 ≤ l.blocks
  pub blocks_high : l.blocks ≤ 65536

-- the whole clusters of the image
abbrev pub total : Layout → ℕ
total l = l.blocks / l.cluster

-- the clusters of the index file: four clusters, the bitmap of one block, and the headers
unfoldable pub index_clusters : Layout → ℕ
index_clusters l = in_whole_clusters l.cluster (4 * l.cluster + 1 + l.files)

-- the clusters of BITMAP.SYS: the storage control block, and the bitmap
unfoldable pub bitmap_clusters : Layout → ℕ
bitmap_clusters l = in_whole_clusters l.cluster (1 + storage_blocks (total l))

-- the clusters of the file of a number, 1 to 11: the directories and QUOTA.SYS have one, and the other files none
unfoldable pub clusters_of : Layout → ℕ → ℕ
clusters_of l n =
    if n == 1 then index_clusters l
    else if n == 2 then bitmap_clusters l
    else if is_system_directory n || (n == 10) then 1
    else 0

-- The first cluster of the file of a number, 1 to 11, where it has clusters: the index file begins at cluster 0, and behind it come BITMAP.SYS, the master
-- file directory, [SYSLOST] and QUOTA.SYS, one after the other.
unfoldable pub first_cluster : Layout → ℕ → ℕ
first_cluster l n =
    if n == 1 then 0
    else if n == 2 then index_clusters l
    else if n == 4 then index_clusters l + bitmap_clusters l
    else if n == 11 then index_clusters l + bitmap_clusters l + 1
    else index_clusters l + bitmap_clusters l + 2

-- the clusters of all system files, which are the first ones of the volume
abbrev pub reserved_clusters : Layout → ℕ
reserved_clusters l = index_clusters l + bitmap_clusters l + 3

-- the blocks of the file of a number
abbrev pub blocks_of : Layout → ℕ → ℕ
blocks_of l n = l.cluster * clusters_of l n

-- one run, where the file has clusters
unfoldable pub runs_of : Layout → ℕ → List Run
runs_of l n =
    if clusters_of l n == 0 then [] else record { lbn = l.cluster * first_cluster l n; count = blocks_of l n } ∷ []

-- [1,1], to whom the system files belong
abbrev pub system_owner : ℕ
system_owner = 65537

-- [1,4], the owner of users' files
abbrev pub user_owner : ℕ
user_owner = 65540

-- the header of the file of a number, 1 to 11: its end is after its last block, and it has no mark
unfoldable pub header_of : Layout → ℕ → Hdr
header_of l n = record {
  num = n;
  seq = system_seq n;
  owner = system_owner;
  dir = is_system_directory n;
  marked = false;
  blocks = blocks_of l n;
  mark = 0;
  end = blocks_of l n + 1;
  byte = 0;
  seg = 0;
  ext = 0;
  ext_seq = 0;
}

-- the text that the header of the file of a number, 1 to 11, has for its name: NAME.TYP and version 1
unfoldable pub text_of : ℕ → List ℕ
text_of n = slice_index_or system_names (n - 1) [] ++ codes ";1"

-- an entry of the master file directory
abbrev pub main_entry : List ℕ → ℕ → RawEnt
main_entry name n = record { name = name; ver = 1; num = n; seq = system_seq n; limit = 32767; flags = 0 }

-- the master file directory names every system file, in order of name
unfoldable pub main_entries : List RawEnt
main_entries =
    main_entry (codes "000000.DIR") 4
    ∷ main_entry (codes "BACKUP.SYS") 8
    ∷ main_entry (codes "BADBLK.SYS") 3 ∷ main_entry (codes "BADLOG.SYS") 9
    ∷ main_entry (codes "BITMAP.SYS") 2
    ∷ main_entry (codes "CONTIN.SYS") 7 ∷ main_entry (codes "CORIMG.SYS") 5
    ∷ main_entry (codes "INDEXF.SYS") 1
    ∷ main_entry (codes "QUOTA.SYS") 10
    ∷ main_entry (codes "SYSLOST.DIR") 11 ∷ main_entry (codes "VOLSET.SYS") 6 ∷ []

-- each owner may use as much as the volume has: its blocks, and one for each file number
abbrev pub whole_quota : Layout → ℕ
whole_quota l = l.blocks + l.files

-- [1,1] is charged the blocks of the system files, and one for each of them
abbrev pub system_row : Layout → Row
system_row l = record { uic = system_owner; usage = l.cluster * reserved_clusters l + 11; quota = whole_quota l; over = 0 }

-- [1,4] is charged nothing yet
abbrev pub user_row : Layout → Row
user_row l = record { uic = user_owner; usage = 0; quota = whole_quota l; over = 0 }

-- the two who have quota
unfoldable pub quota_rows : Layout → List Row
quota_rows l = system_row l ∷ user_row l ∷ []

-- ---- the catalogue

-- the entries of the directory of a number
abbrev pub entries_of : ℕ → List DirEnt
entries_of n = if n == 4 then map plain_entry main_entries else []

-- what the file number of a system file has
abbrev pub system_slot : Layout → ℕ → Slot
system_slot l n = Used (record {
  seq = system_seq n;
  owner = record { 0 = system_owner };
  dir = is_system_directory n;
  clusters = clusters_of l n;
  mark = 0;
  end = blocks_of l n + 1;
  byte = 0;
  marked = false;
  written = [];
  entries = entries_of n;
})

-- The catalogue of a fresh volume: the system files and nothing else. All other numbers are free and were never used, no
-- channel is open, and nothing is leaked.
unfoldable pub fresh : Layout → Cat
fresh l = record {
  factor = l.cluster;
  total = total l;
  reserved = reserved_clusters l;
  rows = 16 * l.cluster;
  files = map (system_slot l) (range_with_len 1 11) ++ replicate (l.files - 11) (Free 0);
  quota = map quota_row (quota_rows l);
  opens = replicate 64 None;
  leaked = 0;
  leaked_numbers = replicate l.files false;
}
