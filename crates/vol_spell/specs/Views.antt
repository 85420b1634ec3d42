-- What a write leaves of a file's header and blocks, of bits and of rows, and what it makes of them.
use Rattle.std.specs.Prelude.{◌≡◌, ◌≢◌, ◌-◌, ◌/◌, ◌%◌, ℕ, List, ◌∷◌, Some, slice_get, slice_set}
use Rattle.base_words.specs.Fields.{Block}
use Rattle.fx_header.specs.Pointers.{blocks_in}
use Rattle.fx_bitmap.specs.Bits.{bit_at}
use Rattle.plain_cat.specs.declared.cat.Cat.{Cat}
use Rattle.plain_cat.specs.declared.cat.Slot.{Slot}
use Rattle.vol_spell.specs.declared.owner.Owner.TheVariants.{InFile, Outside}
use Rattle.base_words.specs.Lists.{Has}
use Rattle.vol_spell.specs.Owners.{Owners}
use Rattle.vol_spell.specs.Spread.{blocks_at}
use Rattle.vol_parts.specs.declared.geometry.Geometry.{Geometry}
use Rattle.vol_parts.specs.declared.geometry.Part.{Part}
use Rattle.vol_parts.specs.declared.geometry.Part.TheVariants.{Header, IndexBitmap, Storage, Quota}
use Rattle.vol_parts.specs.Parts.{part_of}
use Rattle.vol_parts.specs.Volumes.{fields_in, Told}
use Rattle.vol_spell.specs.Reading.{IsFileNumber, owner_at, header_place, header_block, told_of, body_places, body_blocks, cluster_bit, number_bit, quota_places}
use Rattle.vol_spell.specs.Spelling.{size_in, Spells}
use Rattle.vol_spell.specs.Kinds.{IsHeaderFor, IsSlotFor}

-- where none of the blocks in a file's header slots, and in the slot of its number, changes, and the file's runs have the blocks
-- that its first header says, what is told of the file stays
abbrev pub ToldStays : Type 0
ToldStays = (g : Geometry) (bs : List Block) (n l : ℕ) (b : Block) → let t = told_of g bs n in blocks_in t.runs ≡ size_in (fields_in t.head) → ((m : ℕ) → Has (n ∷ (told_of g bs n).slots) m → header_place g m ≢ l) → told_of g (slice_set bs l b) n ≡ told_of g bs n

-- the slot of a number has this block, this is told of its file, and the file has these blocks
pub record IsFileAt (g : Geometry) (bs : List Block) (n : ℕ) (h : Block) (t : Told) (blocks : List Block) : Type 0 where
  pub header : header_block g bs n ≡ h
  pub told : told_of g bs n ≡ t
  pub body : body_blocks bs n (told_of g bs n) ≡ blocks

-- the header of a file, what is told of it, and its blocks are the same in both
abbrev pub IsSameFile : Geometry → List Block → List Block → ℕ → Type 0
IsSameFile g bs bs' n = let t = told_of g bs n in IsFileAt g bs' n (header_block g bs n) t (body_blocks bs n t)

-- a write to a place that is none of the file's header slots, nor in its clusters, leaves the file
abbrev pub OthersStay : Type 0
OthersStay = (g : Geometry) (bs : List Block) (own : Owners) (c : Cat) (n l : ℕ) (b : Block) → Spells g bs own c → IsFileNumber g n
    → ((m : ℕ) → Has (n ∷ (told_of g bs n).slots) m → header_place g m ≢ l) → owner_at g own l ≢ Some (InFile n) → IsSameFile g bs (slice_set bs l b) n

-- a write to another part of the volume leaves the file
abbrev pub PartsStay : Type 0
PartsStay = (g : Geometry) (bs : List Block) (own : Owners) (c : Cat) (n l : ℕ) (p : Part) (b : Block) → Spells g bs own c → IsFileNumber g n → part_of g l ≡ Some p
    → ((m : ℕ) → Has (n ∷ (told_of g bs n).slots) m → p ≢ Header m) → IsSameFile g bs (slice_set bs l b) n

-- a write to a place among a file's blocks sets that block
abbrev pub BodySet : Type 0
BodySet = (g : Geometry) (bs : List Block) (own : Owners) (c : Cat) (n v l : ℕ) (b : Block) → Spells g bs own c → IsFileNumber g n → slice_get (body_places n (told_of g bs n)) v ≡ Some l
    → let t = told_of g bs n in IsFileAt g (slice_set bs l b) n (header_block g bs n) t (slice_set (body_blocks bs n t) v b)

-- a write to a place that a node holds outside leaves each file
abbrev pub OutsideStays : Type 0
OutsideStays = (g : Geometry) (bs : List Block) (own : Owners) (c : Cat) (n node l : ℕ) (b : Block) → Spells g bs own c → IsFileNumber g n → owner_at g own l ≡ Some (Outside node)
    → IsSameFile g bs (slice_set bs l b) n

-- the header slot m has this block, file n has the blocks that stood there before, and each file of another number is left
pub record IsHeaderSet (g : Geometry) (bs bs' : List Block) (n m : ℕ) (b : Block) : Type 0 where
  pub header : header_block g bs' m ≡ b
  pub body : let t = told_of g bs' n in body_blocks bs' n t ≡ body_blocks bs n t
  pub others : (i : ℕ) → IsFileNumber g i → i ≢ n → i ≢ m → IsSameFile g bs bs' i

-- a new header of a file leaves the blocks that the file has then, and the other files
abbrev pub HeaderSet : Type 0
HeaderSet = (g : Geometry) (bs : List Block) (own new : Owners) (c : Cat) (node n m : ℕ) (b : Block) (s : Slot) → Spells g bs own c → IsHeaderFor g bs node n m own new c b s
    → IsHeaderSet g bs (slice_set bs (header_place g m) b) n m b

-- the header slot m has this block, of its number the same is told, and each file of another number is left
pub record IsSlotSet (g : Geometry) (bs bs' : List Block) (m : ℕ) (b : Block) : Type 0 where
  pub header : header_block g bs' m ≡ b
  pub told : told_of g bs' m ≡ told_of g bs m
  pub others : (i : ℕ) → IsFileNumber g i → i ≢ m → IsSameFile g bs bs' i

-- a block in a header slot that is no file's leaves each file
abbrev pub SlotSet : Type 0
SlotSet = (g : Geometry) (bs : List Block) (own : Owners) (c : Cat) (m : ℕ) (b : Block) → Spells g bs own c → IsSlotFor g bs m own c b → IsSlotSet g bs (slice_set bs (header_place g m) b) m b

-- a block of the storage bitmap tells the bits of its 4,096 clusters, and leaves the others
pub record IsStorageSet (g : Geometry) (bs bs' : List Block) (k : ℕ) (b : Block) : Type 0 where
  pub here : (q : ℕ) → q / 4096 ≡ k → cluster_bit g bs' q ≡ bit_at b (q % 4096)
  pub elsewhere : (q : ℕ) → q / 4096 ≢ k → cluster_bit g bs' q ≡ cluster_bit g bs q

abbrev pub StorageSet : Type 0
StorageSet = (g : Geometry) (bs : List Block) (own : Owners) (c : Cat) (k l : ℕ) (b : Block) → Spells g bs own c → part_of g l ≡ Some (Storage k) → IsStorageSet g bs (slice_set bs l b) k b

-- the index-file bitmap tells the bits of all numbers
abbrev pub IndexSet : Type 0
IndexSet = (g : Geometry) (bs : List Block) (own : Owners) (c : Cat) (l : ℕ) (b : Block) → Spells g bs own c → part_of g l ≡ Some IndexBitmap → (n : ℕ) → number_bit g (slice_set bs l b) n ≡ bit_at b (n - 1)

-- a quota block is set among the quota blocks
abbrev pub QuotaSet : Type 0
QuotaSet = (g : Geometry) (bs : List Block) (own : Owners) (c : Cat) (k l : ℕ) (b : Block) → Spells g bs own c → part_of g l ≡ Some (Quota k)
    → blocks_at (slice_set bs l b) (quota_places g) ≡ slice_set (blocks_at bs (quota_places g)) k b
