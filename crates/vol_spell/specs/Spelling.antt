-- Blocks that spell a catalogue, with one owner for each cluster and each file number.
use Rattle.std.specs.Prelude.{◌≡◌, ◌≤◌, ◌<◌, ◌+◌, ◌*◌, ◌-◌, ◌%◌, ◌&&◌, ◌↔◌, not, ℕ, Bool, true, false, List, [], ◌∷◌, Option, Some, None, Result, Ok, Err, length, map, take, count_by, sum_by, slice_get, slice_index_or, if◌then◌else◌}
use Rattle.base_words.specs.Fields.{Block, AreWholeBlocks}
use Rattle.fx_home.specs.declared.home.Home.{Home}
use Rattle.fx_home.specs.declared.home.HomeFault.{HomeFault}
use Rattle.fx_home.specs.Homes.{home_read, scb_read}
use Rattle.fx_header.specs.declared.run.Run.{Run}
use Rattle.fx_header.specs.declared.slot.Hdr.{Hdr}
use Rattle.fx_header.specs.declared.slot.Slot.{Slot as Head}
use Rattle.fx_header.specs.declared.slot.Slot.TheVariants as head
use Rattle.fx_header.specs.declared.slot.HeaderFault.{HeaderFault}
use Rattle.fx_header.specs.Headers.{header_read}
use Rattle.fx_header.specs.Pointers.{blocks_in}
use Rattle.fx_dir.specs.Directory.{directory}
use Rattle.plain_cat.specs.declared.cat.Cat.{Cat}
use Rattle.plain_cat.specs.declared.cat.Slot.{Slot}
use Rattle.plain_rules.specs.Lookups.{clusters_in, file_most}
use Rattle.vol_spell.specs.declared.owner.Owner.TheVariants.{Free, InFile, Outside, Leaked}
use Rattle.base_words.specs.Lists.{Has, Once}
use Rattle.vol_spell.specs.Owners.{Owners}
use Rattle.vol_spell.specs.Counts.{is_same_owner}
use Rattle.vol_parts.specs.declared.finding.Finding.{Finding}
use Rattle.vol_parts.specs.declared.finding.Finding.TheVariants as finding
use Rattle.vol_parts.specs.declared.geometry.Geometry.{Geometry}
use Rattle.vol_parts.specs.Chains.{is_well_split}
use Rattle.vol_parts.specs.Parts.{IsGeometry, storage_blocks}
use Rattle.vol_parts.specs.Volumes.{fields_in, Told}
use Rattle.vol_parts.specs.Catalogues.{slot_with, rows_sorted}
use Rattle.vol_parts.specs.Fatal.{is_one_header, is_system_header, has_dir_size, found_in, in_whole_clusters}
use Rattle.vol_spell.specs.Reading.{IsFileNumber, total_of, header_block, told_of, chain_told, clusters_told, body_blocks, cluster_bit, number_bit, rows_told}

-- ---- a file

-- a header can be read, and one in use is that of its number
abbrev pub IsHead : ℕ → Result Head HeaderFault → Type 0
IsHead n (Ok (head.Used f)) = f.num ≡ n
IsHead n (Ok (head.Free seq)) = Unit {0}
IsHead n (Err fault) = ⊥

-- a run begins and ends at a cluster's bounds, inside the whole clusters
pub record IsWhole (g : Geometry) (r : Run) : Type 0 where
  pub begins : r.lbn % g.cluster ≡ 0
  pub ends : r.count % g.cluster ≡ 0
  pub inside : r.lbn + r.count ≤ g.cluster * total_of g

abbrev pub AreWhole : Geometry → List Run → Type 0
AreWhole g [] = Unit {0}
AreWhole g (r ∷ rs) = IsWhole g r × AreWhole g rs

-- what is wrong with a directory, by what is told of it and its blocks: nothing where the file is none
abbrev pub dir_found : Geometry → ℕ → Option Hdr → Told → List Block → Option Finding
dir_found g n None t blocks = None
dir_found g n (Some f) t blocks =
    if not f.dir then None
    else if is_one_header f t && has_dir_size g.cluster f t.runs then found_in n (directory blocks)
    else Some (finding.DirSize n)

-- so many blocks has a file in use by its first header, none where there is no file
abbrev pub size_in : Option Hdr → ℕ
size_in (Some f) = f.blocks
size_in None = 0

-- the file of a first header with these fields has no other header, and this one lists just the file's blocks; or there is no file
abbrev pub has_one_at_most : Option Hdr → Told → Bool
has_one_at_most None t = true
has_one_at_most (Some f) t = is_one_header f t

-- What is told of the file of number n, and the blocks of the file, tell the slot s, with the owners as they are. The clusters of
-- its runs are those that the file owns, each listed once; above number 11 they are no more than a file may have, and all headers
-- but the last list as many as a header can; up to number 11 it has one header, which lists just its blocks; its header slots are
-- the numbers that it owns; its runs have the blocks that its first header says; and a directory can be read.
pub record Tells (g : Geometry) (own : Owners) (n : ℕ) (t : Told) (blocks : List Block) (s : Slot) : Type 0 where
  pub reads : IsHead n t.head
  pub whole : AreWhole g t.runs
  pub once : Once (clusters_told g t)
  pub runs : (q : ℕ) → Has (clusters_told g t) q ↔ (slice_get own.clusters q ≡ Some (InFile n))
  pub few : 11 < n → length (clusters_told g t) ≤ file_most
  pub split : 11 < n → is_well_split g.cluster (chain_told t) ≡ true
  pub system : n ≤ 11 → has_one_at_most (fields_in t.head) t ≡ true
  pub slots : (m : ℕ) → Has t.slots m ↔ (IsFileNumber g m × (slice_get own.numbers (m - 1) ≡ Some (InFile n)))
  pub size : blocks_in t.runs ≡ size_in (fields_in t.head)
  pub dir : dir_found g n (fields_in t.head) t blocks ≡ None
  pub slot : slot_with g.cluster n t.head blocks ≡ s

-- ---- the volume's own structures

-- the home block says the cluster factor and the file numbers
abbrev pub IsHomeOf : Geometry → Result Home HomeFault → Type 0
IsHomeOf g (Ok h) = (h.cluster ≡ g.cluster) × (h.files ≡ g.files)
IsHomeOf g (Err fault) = ⊥

-- a system file that holds parts of the volume, in one run
pub record IsStructure (g : Geometry) (bs : List Block) (n : ℕ) (r : Run) : Type 0 where
  pub header : is_system_header n (fields_in (told_of g bs n).head) ≡ true
  pub run : (told_of g bs n).runs ≡ r ∷ []

-- so many clusters that they have so many blocks, from a first one on
abbrev pub run_for : Geometry → ℕ → ℕ → Run
run_for g lbn blocks = record { lbn = lbn; count = g.cluster * in_whole_clusters g.cluster blocks }

-- The home block, the storage control block, and the files that hold them and all other parts: the index file begins at LBN 0
-- and has four clusters, its bitmap and the headers; the storage bitmap has the control block before it; the quota file has
-- one cluster.
pub record HasStructures (g : Geometry) (bs : List Block) : Type 0 where
  pub home : IsHomeOf g (home_read (slice_index_or bs 1 []))
  pub control : scb_read (slice_index_or bs g.bitmap_lbn []) ≡ Ok (record { cluster = g.cluster; blocks = g.blocks })
  pub index : IsStructure g bs 1 (run_for g 0 (4 * g.cluster + 1 + g.files))
  pub bitmap : IsStructure g bs 2 (run_for g g.bitmap_lbn (1 + storage_blocks (total_of g)))
  pub quota : IsStructure g bs 10 (record { lbn = g.quota_lbn; count = g.cluster })

-- what of a catalogue no command changes
pub record HasConstants (g : Geometry) (c : Cat) : Type 0 where
  pub factor : c.factor ≡ g.cluster
  pub total : c.total ≡ total_of g
  pub reserved : c.reserved ≡ sum_by clusters_in (take 11 c.files)
  pub rows : c.rows ≡ 16 * g.cluster

-- ---- the whole

-- The geometry is one of a volume; there are as many blocks, and an owner for each cluster and each number, and a slot for each
-- number.
pub record HasCounts (g : Geometry) (bs : List Block) (own : Owners) (c : Cat) : Type 0 where
  pub geometry : IsGeometry g
  pub blocks : length bs ≡ g.blocks
  pub clusters : length own.clusters ≡ total_of g
  pub numbers : length own.numbers ≡ g.files
  pub slots : length c.files ≡ g.files

-- The active rows of the quota blocks are the catalogue's, in order of owner, and no owner has two.
pub record HasRows (g : Geometry) (bs : List Block) (c : Cat) : Type 0 where
  pub quota : c.quota ≡ rows_sorted (rows_told g bs)
  pub once : Once (map (λ r. r.uic) (rows_told g bs))

-- a header slot in which no header is in use, neither a file's first one nor another
abbrev pub IsBlank : Block → Type 0
IsBlank b = fields_in (header_read b) ≡ None

-- The header slots, those of files and all others.
pub record HasSlots (g : Geometry) (bs : List Block) (own : Owners) : Type 0 where
  -- each slot can be read, and a header in it is that of its number
  pub heads : (m : ℕ) → IsFileNumber g m → IsHead m (header_read (header_block g bs m))
  -- the slot of a free number is free
  pub blank : (m : ℕ) → IsFileNumber g m → slice_get own.numbers (m - 1) ≡ Some Free → IsBlank (header_block g bs m)

-- The slot of each number that a node has outside is free. Between the writes of a command it may be in use, so the spelling does
-- not ask for it.
abbrev pub AreBlank : Geometry → List Block → Owners → Type 0
AreBlank g bs own = (m node : ℕ) → IsFileNumber g m → slice_get own.numbers (m - 1) ≡ Some (Outside node) → IsBlank (header_block g bs m)

-- The owners are those that the bits and the catalogue tell.
pub record AreOwners (g : Geometry) (bs : List Block) (own : Owners) (c : Cat) : Type 0 where
  -- the bit of a cluster is set exactly where it is free
  pub cluster_bits : (q : ℕ) → q < total_of g → (cluster_bit g bs q ≡ true) ↔ (slice_get own.clusters q ≡ Some Free)
  -- the bit of a number is clear exactly where it is free
  pub number_bits : (n : ℕ) → IsFileNumber g n → (number_bit g bs n ≡ false) ↔ (slice_get own.numbers (n - 1) ≡ Some Free)
  -- a file that has a cluster has one of the volume's numbers
  pub known : (q n : ℕ) → slice_get own.clusters q ≡ Some (InFile n) → IsFileNumber g n
  -- a file that has a number has one of the volume's numbers
  pub known_numbers : (i n : ℕ) → slice_get own.numbers i ≡ Some (InFile n) → IsFileNumber g n
  -- the leaked clusters are counted
  pub leaked : c.leaked ≡ count_by (is_same_owner Leaked) own.clusters
  -- the leaked numbers are flagged
  pub leaked_numbers : c.leaked_numbers ≡ map (is_same_owner Leaked) own.numbers

-- The blocks spell the catalogue, with these owners. What the channels have open is no matter of the blocks.
pub record Spells (g : Geometry) (bs : List Block) (own : Owners) (c : Cat) : Type 0 where
  -- each list has as many items as the geometry says
  pub counts : HasCounts g bs own c
  -- each block is whole
  pub whole : AreWholeBlocks bs
  -- the volume's own structures are there
  pub structures : HasStructures g bs
  -- what no command changes is as the geometry says
  pub constants : HasConstants g c
  -- what is told of each file tells its slot, with the blocks of the file
  pub files : (n : ℕ) (s : Slot) → IsFileNumber g n → slice_get c.files (n - 1) ≡ Some s → Tells g own n (told_of g bs n) (body_blocks bs n (told_of g bs n)) s
  -- each header slot can be read, and that of a free number is free
  pub slots : HasSlots g bs own
  -- the quota rows are the catalogue's
  pub rows : HasRows g bs c
  -- the owners are those that the bits and the catalogue tell
  pub owners : AreOwners g bs own c
