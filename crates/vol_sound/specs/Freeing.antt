-- Header slots that a repair frees, and what stays of a volume then.
use Rattle.std.specs.Prelude.{◌≡◌, ◌≢◌, ◌⊎◌, ◌≤◌, ◌<◌, ℕ, Bool, true, false, List, Some, None, Ok, Err, length, slice_set}
use Rattle.base_words.specs.Fields.{Block, AreWholeBlocks, field}
use Rattle.fx_home.specs.declared.home.Home.{Home}
use Rattle.fx_home.specs.Homes.{IsWithinLimits}
use Rattle.fx_header.specs.declared.slot.Hdr.{Hdr}
use Rattle.fx_header.specs.declared.slot.HeaderFault.{HeaderFault}
use Rattle.fx_header.specs.declared.slot.Slot.TheVariants.{Free}
use Rattle.fx_header.specs.Headers.{freed}
use Rattle.vol_parts.specs.Volumes.{Volume, volume, IsNumber, header_lbn, header_at, block_at, head, used_slot, fields, told, body}
use Rattle.vol_parts.specs.Conditions.{HasSystemFiles}
use Rattle.vol_parts.specs.Parts.{is_among}
use Rattle.plain_rules.specs.SystemFiles.{is_system_directory}
use Rattle.vol_parts.specs.declared.finding.Finding.TheVariants as finding
use Rattle.vol_parts.specs.Fatal.{scb_fault, chain_fault, dir_fault, IsInRun, IsShared}
use Rattle.vol_faults.specs.Conditions.{has_run_off}
use Rattle.vol_sound.specs.Sound.{has_cut, times_cut, is_sound, is_kept}

-- Nothing of a volume is beyond repair. Its system files are as the structure of a volume asks, each has the header of its number and
-- runs of whole clusters, and no cluster is in two of these runs; the storage control block has no fault; and the two system directories
-- have the size of one.
pub record HasSystem (v : Volume) : Type 0 where
  pub files : HasSystemFiles v
  pub cuts : (n : ℕ) → 1 ≤ n → n ≤ 11 → has_cut v n ≡ true
  pub inside : (n : ℕ) → 1 ≤ n → n ≤ 11 → has_run_off v n ≡ false
  pub apart : (q n i m j : ℕ) → n ≤ 11 → m ≤ 11 → IsInRun v q n i → IsInRun v q m j → (n ≡ m) × (i ≡ j)
  pub control : scb_fault v ≡ None
  pub sizes : (n : ℕ) → is_system_directory n ≡ true → dir_fault v n ≢ Some (finding.DirSize n)

-- the sequence that stands in the slot of a number, at byte 10, be the slot free, used or without sense
abbrev pub seq_at : Volume → ℕ → ℕ
seq_at v m = field (header_at v m) 10 2

-- the slot of a number has the same block, or it is not kept and has become free, with its sequence
abbrev pub IsSlotLeft : Volume → Volume → ℕ → Type 0
IsSlotLeft v p m = (header_at p m ≡ header_at v m) ⊎ ((is_kept v m ≡ false) × (head p m ≡ Ok (Free (seq_at v m))))

-- of these blocks some slots have become free that are not kept, and each other slot has the same block
pub record HasSlotsFreed (home : Home) (old new : List Block) : Type 0 where
  pub count : length new ≡ length old
  pub slots : (m : ℕ) → IsNumber (volume home old) m → IsSlotLeft (volume home old) (volume home new) m

-- all slots that are not kept have
pub record HasAllFreed (home : Home) (old new : List Block) : Type 0 where
  pub freed : HasSlotsFreed home old new
  pub all : (m : ℕ) → IsNumber (volume home old) m → is_kept (volume home old) m ≡ false → head (volume home new) m ≡ Ok (Free (seq_at (volume home old) m))

-- a block is that of a header slot
abbrev pub is_header_place : Volume → ℕ → Bool
is_header_place v l = is_among (header_lbn v 1) v.home.files l

-- all blocks but those of header slots are the same
pub record LeavesOthers (home : Home) (old new : List Block) : Type 0 where
  pub others : (l : ℕ) → is_header_place (volume home old) l ≡ false → block_at (volume home new) l ≡ block_at (volume home old) l

-- of a file the same is told, and the same is wrong with its chain of headers
pub record IsSameTold (v p : Volume) (n : ℕ) : Type 0 where
  pub fields : fields p n ≡ fields v n
  pub told : told p n ≡ told v n
  pub chain : chain_fault p n ≡ chain_fault v n

-- ---- one slot

-- the blocks where the slot of a number has become free, with the sequence that stood there
abbrev pub with_freed : Home → List Block → ℕ → List Block
with_freed home bs m = slice_set bs (header_lbn (volume home bs) m) (freed (seq_at (volume home bs) m))

-- one slot more is free, with the sequence that stood there at first
pub record IsOneFreed (home : Home) (old mid : List Block) (m : ℕ) : Type 0 where
  pub slots : HasSlotsFreed home old (with_freed home mid m)
  pub others : LeavesOthers home old mid → LeavesOthers home old (with_freed home mid m)
  pub free : head (volume home (with_freed home mid m)) m ≡ Ok (Free (seq_at (volume home old) m))

-- a slot that was not kept at first becomes free
abbrev pub OneIsFreed : Type 0
OneIsFreed = (home : Home) (old mid : List Block) (m : ℕ) → IsWithinLimits home → HasSystem (volume home old) → AreWholeBlocks mid → HasSlotsFreed home old mid
    → IsNumber (volume home old) m → is_kept (volume home old) m ≡ false → IsOneFreed home old mid m

-- ---- while slots become free

-- What is told of a system file or of a sound file stays. Of another file there is a cut afterwards only where there was one, and then
-- the same is told of it; so no cluster is in more runs of cuts.
pub record IsFreeing (v p : Volume) : Type 0 where
  pub system : (n : ℕ) → 1 ≤ n → n ≤ 11 → IsSameTold v p n
  pub sound : (n : ℕ) → IsNumber v n → is_sound v n ≡ true → IsSameTold v p n
  pub cuts : (n : ℕ) → IsNumber v n → has_cut p n ≡ true → (has_cut v n ≡ true) × IsSameTold v p n
  pub times : (q : ℕ) → times_cut p q ≤ times_cut v q

abbrev pub FreeingKeeps : Type 0
FreeingKeeps = (home : Home) (old new : List Block) → IsWithinLimits home → HasSystem (volume home old) → HasSlotsFreed home old new
    → IsFreeing (volume home old) (volume home new)

-- where no other block changes, the files but the index file keep their blocks, and what is sound stays so
pub record LeavesFiles (v p : Volume) : Type 0 where
  pub system : (n : ℕ) → 1 < n → n ≤ 11 → body p n ≡ body v n
  pub sound : (n : ℕ) → IsNumber v n → is_sound v n ≡ true → (body p n ≡ body v n) × (is_sound p n ≡ true)

abbrev pub FreeingLeaves : Type 0
FreeingLeaves = (home : Home) (old new : List Block) → IsWithinLimits home → HasSystem (volume home old) → HasSlotsFreed home old new → LeavesOthers home old new
    → LeavesFiles (volume home old) (volume home new)

-- ---- once all are free

-- No header has a fault, and each has its number; a file in use above number 11 is one that was sound, and nothing is wrong with its
-- chain; all runs are whole clusters of the volume, and no cluster is in two of them.
pub record IsSettled (v p : Volume) : Type 0 where
  pub heads : (n : ℕ) (fault : HeaderFault) → IsNumber v n → head p n ≡ Err fault → ⊥
  pub own : (n : ℕ) (f : Hdr) → IsNumber v n → used_slot p n ≡ Some f → f.num ≡ n
  pub sound : (n : ℕ) (f : Hdr) → IsNumber v n → 11 < n → fields p n ≡ Some f → is_sound v n ≡ true
  pub chains : (n : ℕ) → IsNumber v n → 11 < n → chain_fault p n ≡ None
  pub runs : (n : ℕ) → IsNumber v n → has_run_off p n ≡ false
  pub unshared : (q : ℕ) → IsShared p q → ⊥

abbrev pub FreedIsSettled : Type 0
FreedIsSettled = (home : Home) (old new : List Block) → IsWithinLimits home → HasSystem (volume home old) → HasAllFreed home old new
    → IsSettled (volume home old) (volume home new)
