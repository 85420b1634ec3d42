-- The kinds of writes, and the death of a node. Each takes blocks that spell a catalogue to blocks that spell one, whatever the
-- whole block that is written, if it reads as the kind says.
use Rattle.std.specs.Prelude.{◌≡◌, ◌≢◌, ◌≤◌, ◌<◌, ◌-◌, ◌^◌, ◌↔◌, ℕ, true, false, List, ◌∷◌, Some, None, Ok, map, count_by, slice_get, slice_set}
use Rattle.base_words.specs.Fields.{Block, IsWholeBlock}
use Rattle.plain_cat.specs.declared.cat.Cat.{Cat}
use Rattle.plain_cat.specs.declared.cat.File.{File}
use Rattle.plain_cat.specs.declared.cat.Slot.{Slot}
use Rattle.plain_cat.specs.declared.cat.Slot.TheVariants as slot
use Rattle.fx_header.specs.declared.slot.Slot.TheVariants as head
use Rattle.fx_header.specs.Headers.{header_read, with_owner}
use Rattle.plain_rules.specs.Lookups.{clusters_in, file_at}
use Rattle.plain_rules.specs.Changes.{with_slot, with_file}
use Rattle.vol_spell.specs.declared.owner.Owner.TheVariants.{Free, InFile, Outside, Leaked}
use Rattle.base_words.specs.Lists.{Has, Once}
use Rattle.vol_spell.specs.Owners.{Owners, Moves, OwnersMove, IsFileMove, IsSpaceMove, IsDeathMove}
use Rattle.vol_spell.specs.Counts.{is_same_owner}
use Rattle.vol_parts.specs.declared.geometry.Geometry.{Geometry}
use Rattle.vol_parts.specs.declared.geometry.Part.TheVariants.{IndexBitmap, Storage, Quota}
use Rattle.vol_parts.specs.Parts.{part_of}
use Rattle.vol_parts.specs.Fatal.{is_system_header}
use Rattle.vol_parts.specs.Volumes.{fields_in}
use Rattle.vol_parts.specs.Catalogues.{is_structure, slot_with, rows_sorted}
use Rattle.vol_spell.specs.Reading.{IsFileNumber, total_of, owner_at, header_place, header_block, head_told, told_of, body_places, body_blocks, cluster_bit, number_bit, rows_told}
use Rattle.vol_spell.specs.Spelling.{IsHead, IsBlank, Tells, dir_found, Spells}

-- a block in no file and no bitmap, which a node holds: nothing changes
abbrev pub OutsideWrite : Type 0
OutsideWrite = (g : Geometry) (bs : List Block) (own : Owners) (c : Cat) (node l : ℕ) (b : Block) → Spells g bs own c → IsWholeBlock b → owner_at g own l ≡ Some (Outside node) → Spells g (slice_set bs l b) own c

-- the catalogue with the rows that the blocks tell
abbrev pub with_rows : Geometry → List Block → Cat → Cat
with_rows g bs c = record c { quota = rows_sorted (rows_told g bs) }

-- a quota block: the rows change alone
abbrev pub QuotaWrite : Type 0
QuotaWrite = (g : Geometry) (bs : List Block) (own : Owners) (c : Cat) (k l : ℕ) (b : Block) → Spells g bs own c → IsWholeBlock b → part_of g l ≡ Some (Quota k)
    → Once (map (λ r. r.uic) (rows_told g (slice_set bs l b))) → Spells g (slice_set bs l b) own (with_rows g (slice_set bs l b) c)

-- a block of the storage bitmap: clusters go from the free ones to the node that writes, or back
abbrev pub StorageWrite : Type 0
StorageWrite = (g : Geometry) (bs : List Block) (own new : Owners) (c : Cat) (node k l : ℕ) (b : Block) → Spells g bs own c → IsWholeBlock b → part_of g l ≡ Some (Storage k)
    → Moves (IsSpaceMove node) own.clusters new.clusters → new.numbers ≡ own.numbers
    → ((q : ℕ) → q < total_of g → (cluster_bit g (slice_set bs l b) q ≡ true) ↔ (slice_get new.clusters q ≡ Some Free))
    → Spells g (slice_set bs l b) new c

-- the index-file bitmap: numbers go from the free ones to the node that writes, or back; the slot of each that becomes free is free
abbrev pub IndexWrite : Type 0
IndexWrite = (g : Geometry) (bs : List Block) (own new : Owners) (c : Cat) (node l : ℕ) (b : Block) → Spells g bs own c → IsWholeBlock b → part_of g l ≡ Some IndexBitmap
    → new.clusters ≡ own.clusters → Moves (IsSpaceMove node) own.numbers new.numbers
    → ((n : ℕ) → IsFileNumber g n → (number_bit g (slice_set bs l b) n ≡ false) ↔ (slice_get new.numbers (n - 1) ≡ Some Free))
    → ((n : ℕ) → IsFileNumber g n → slice_get own.numbers (n - 1) ≢ Some Free → slice_get new.numbers (n - 1) ≡ Some Free → IsBlank (header_block g bs n))
    → Spells g (slice_set bs l b) new c

-- A file that holds parts of the volume keeps its runs, and its first header is as good for such a file as it was.
pub record KeepsParts (g : Geometry) (bs bs' : List Block) (n : ℕ) : Type 0 where
  pub header : is_system_header n (fields_in (told_of g bs' n).head) ≡ is_system_header n (fields_in (told_of g bs n).head)
  pub runs : (told_of g bs' n).runs ≡ (told_of g bs n).runs

-- The block b in header slot m of file n, that of its own number or another, by a node: what the file gets was outside at the
-- node, and what it loses goes there. The number m is the file's or outside at the node, and it stays its header's; what is told of
-- m where it is not n stays. With the block and the blocks that are named then the file tells the slot s, where a file that holds
-- parts of the volume keeps them, and one that is counted as reserved keeps its number of clusters.
pub record IsHeaderFor (g : Geometry) (bs : List Block) (node n m : ℕ) (own new : Owners) (c : Cat) (b : Block) (s : Slot) : Type 0 where
  pub whole : IsWholeBlock b
  pub number : IsFileNumber g n
  pub slot : Has (n ∷ (told_of g bs n).slots) m
  pub owned : IsFileMove node n (slice_get own.numbers (m - 1))
  pub head : IsHead m (header_read b)
  pub alike : m ≢ n → told_of g (slice_set bs (header_place g m) b) m ≡ told_of g bs m
  pub parts : is_structure n ≡ true → KeepsParts g bs (slice_set bs (header_place g m) b) n
  pub moves : OwnersMove (IsFileMove node n) own new
  pub tells : let t = told_of g (slice_set bs (header_place g m) b) n in Tells g new n t (body_blocks bs n t) s
  pub reserved : (old : Slot) → n ≤ 11 → slice_get c.files (n - 1) ≡ Some old → clusters_in s ≡ clusters_in old

-- a header: one slot changes
abbrev pub HeaderWrite : Type 0
HeaderWrite = (g : Geometry) (bs : List Block) (own new : Owners) (c : Cat) (node n m : ℕ) (b : Block) (s : Slot) → Spells g bs own c → IsHeaderFor g bs node n m own new c b s
    → Spells g (slice_set bs (header_place g m) b) new (with_slot c n s)

-- the file with another owner
abbrev pub owned_by : File → ℕ → File
owned_by f owner = record f { owner = record { 0 = owner } }

-- another owner in the first header of a file, whichever it is: the catalogue's file has this owner
abbrev pub OwnerSpelt : Type 0
OwnerSpelt = (g : Geometry) (bs : List Block) (own : Owners) (c : Cat) (n owner : ℕ) (f : File) → Spells g bs own c → IsFileNumber g n → file_at c n ≡ Some f → owner < 2 ^ 32
    → Spells g (slice_set bs (header_place g n) (with_owner (header_block g bs n) owner)) own (with_file c n (owned_by f owner))

-- The block b in header slot m, which is no file's: it is the header of this number, tells no file, and has the sequence that the
-- catalogue has. Where the number is free, the slot stays free.
pub record IsSlotFor (g : Geometry) (bs : List Block) (m : ℕ) (own : Owners) (c : Cat) (b : Block) : Type 0 where
  pub whole : IsWholeBlock b
  pub number : IsFileNumber g m
  pub no_file : (n : ℕ) → slice_get own.numbers (m - 1) ≢ Some (InFile n)
  pub seq : ℕ
  pub reads : head_told b ≡ Ok (head.Free seq)
  pub slot : slice_get c.files (m - 1) ≡ Some (slot.Free seq)
  pub head : IsHead m (header_read b)
  pub blank : slice_get own.numbers (m - 1) ≡ Some Free → IsBlank b

-- a header slot that is no file's: nothing changes
abbrev pub SlotWrite : Type 0
SlotWrite = (g : Geometry) (bs : List Block) (own : Owners) (c : Cat) (m : ℕ) (b : Block) → Spells g bs own c → IsSlotFor g bs m own c b → Spells g (slice_set bs (header_place g m) b) own c

-- The block v, from 0, of file n, which stands at l: with it the file's blocks tell the slot s, and a directory can be read.
pub record IsBodyFor (g : Geometry) (bs : List Block) (n v l : ℕ) (b : Block) (s : Slot) : Type 0 where
  pub whole : IsWholeBlock b
  pub number : IsFileNumber g n
  pub place : slice_get (body_places n (told_of g bs n)) v ≡ Some l
  pub dir : let t = told_of g bs n in dir_found g n (fields_in t.head) t (slice_set (body_blocks bs n t) v b) ≡ None
  pub slot : let t = told_of g bs n in slot_with g.cluster n t.head (slice_set (body_blocks bs n t) v b) ≡ s

-- a block of a file: its slot changes
abbrev pub BodyWrite : Type 0
BodyWrite = (g : Geometry) (bs : List Block) (own : Owners) (c : Cat) (n v l : ℕ) (b : Block) (s : Slot) → Spells g bs own c → IsBodyFor g bs n v l b s
    → Spells g (slice_set bs l b) own (with_slot c n s)

-- the catalogue with what these owners have leaked
abbrev pub with_leaks : Owners → Cat → Cat
with_leaks own c = record c { leaked = count_by (is_same_owner Leaked) own.clusters; leaked_numbers = map (is_same_owner Leaked) own.numbers }

-- no write, but the death of a node: what it held outside is leaked; what is leaked may also go outside at the node
abbrev pub DeathLeaks : Type 0
DeathLeaks = (g : Geometry) (bs : List Block) (own new : Owners) (c : Cat) (node : ℕ) → Spells g bs own c → OwnersMove (IsDeathMove node) own new
    → Spells g bs new (with_leaks new c)
