-- Bytes that are stored in a file as its stream: when they are refused, what the file is then, and what a stop may leave.
use Rattle.std.specs.Prelude.{◌≡◌, ◌⊎◌, ◌+◌, ◌-◌, ◌*◌, ◌/◌, ◌%◌, ◌==◌, ◌&&◌, ◌||◌, not, nat_lt, nat_le, ℕ, zero, suc, List, [], ◌∷◌, ◌++◌, length, take, drop, replicate, Option, Some, None, Result, Ok, Err, if◌then◌else◌}
use Rattle.base_words.specs.Fields.{Block}
use Rattle.base_words.specs.Lists.{written}
use Rattle.blk_drive.specs.Telling.{IsTold, told_as}
use Rattle.fx_home.specs.declared.home.Home.{Home}
use Rattle.fx_home.specs.declared.home.HomeFault.{HomeFault}
use Rattle.fx_home.specs.Homes.{home_read}
use Rattle.fx_header.specs.declared.slot.Hdr.{Hdr}
use Rattle.fx_header.specs.Headers.{with_mark, with_end}
use Rattle.fx_header.specs.Pointers.{lbns_in}
use Rattle.plain_cat.specs.declared.cat.Cat.{Cat}
use Rattle.plain_cat.specs.declared.cat.File.{File}
use Rattle.plain_rules.specs.Lookups.{in_use}
use Rattle.plain_rules.specs.Changes.{with_file}
use Rattle.vol_parts.specs.Volumes.{Volume, volume, header_lbn, header_at, fields, runs}
use Rattle.vol_parts.specs.Findings.{home_at, Accepts, CatOf}
use Rattle.vol_records.specs.declared.types.StoreFault.{StoreFault}
use Rattle.vol_records.specs.declared.types.StoreFault.TheVariants as refusal
use Rattle.vol_records.specs.Keeping.{with_data}
use Rattle.vol_records.specs.Streams.{stream_at}
use Rattle.vol_records.specs.Making.{placed, IsMade}

-- ---- refusals

abbrev pub of_sequence : ℕ → Option Hdr → Option Hdr
of_sequence seq None = None
of_sequence seq (Some f) = if f.seq == seq then Some f else None

-- the fields of the file in use under a number and a sequence
unfoldable pub used_file : Volume → ℕ → ℕ → Option Hdr
used_file v n seq = if nat_lt 0 n && nat_le n v.home.files then of_sequence seq (fields v n) else None

-- Why so many bytes are not stored in the file of number n: none is in use; it is a system file or a directory; something was
-- written in it; or its blocks are too few.
abbrev pub refusal_by : ℕ → ℕ → Option Hdr → Option StoreFault
refusal_by n len None = Some refusal.NoSuchFile
refusal_by n len (Some f) =
    if nat_le n 11 || f.dir then Some refusal.NoPriv
    else if not (f.mark == 1) then Some refusal.NotEmpty
    else if nat_lt (512 * f.blocks) len then Some refusal.NoRoom
    else None

unfoldable pub store_refusal : Volume → ℕ → ℕ → ℕ → Option StoreFault
store_refusal v n seq len = refusal_by n len (used_file v n seq)

abbrev pub refusal_of : List Block → Result Home HomeFault → ℕ → ℕ → ℕ → Option StoreFault
refusal_of bs (Err fault) n seq len = Some refusal.NoSuchFile
refusal_of bs (Ok home) n seq len = store_refusal (volume home bs) n seq len

-- why so many bytes are not stored in the file of number n and sequence seq of these blocks, if they are not
abbrev pub refusal_at : List Block → ℕ → ℕ → ℕ → Option StoreFault
refusal_at bs n seq len = refusal_of bs (home_read (home_at bs)) n seq len

-- an answer goes with a refusal, or with none
abbrev pub Answers : Option StoreFault → Result ℕ StoreFault → Type 0
Answers (Some fault) result = result ≡ Err fault
Answers None (Ok len) = Unit {0}
Answers None (Err refusal.NoMemory) = Unit {0}
Answers None (Err refusal.ImageFault) = Unit {0}
Answers None (Err fault) = ⊥

-- ---- what is stored

-- a block that begins with these bytes, and has zeros behind them
abbrev pub filled : List ℕ → Block
filled bytes = bytes ++ replicate (512 - length bytes) 0

-- bytes as so many blocks
abbrev pub chunks : ℕ → List ℕ → List Block
chunks zero bytes = []
chunks (suc k) bytes = filled (take 512 bytes) ∷ chunks k (drop 512 bytes)

-- how many blocks so many bytes take
abbrev pub blocks_for : ℕ → ℕ
blocks_for len = (len + 511) / 512

-- a file with these bytes as its stream: its mark is behind their blocks, and its end behind their last byte
abbrev pub stored : File → List ℕ → File
stored f bytes = with_data f (blocks_for (length bytes) + 1) (length bytes / 512 + 1) (length bytes % 512) (chunks (blocks_for (length bytes)) bytes)

-- ---- the writes

-- the header of a file in which so many bytes are stored
abbrev pub stored_header : Block → ℕ → Block
stored_header b len = with_end (with_mark b (blocks_for len + 1)) (len / 512 + 1) (len % 512)

-- the blocks of the bytes in the file's order, and behind them its header
abbrev pub store_writes : Volume → ℕ → List ℕ → List (ℕ × Block)
store_writes v n bytes = placed (lbns_in (runs v n)) (chunks (blocks_for (length bytes)) bytes) ++ (header_lbn v n, stored_header (header_at v n) (length bytes)) ∷ []

abbrev pub writes_by : List Block → Result Home HomeFault → ℕ → List ℕ → List (ℕ × Block)
writes_by bs (Err fault) n bytes = []
writes_by bs (Ok home) n bytes = store_writes (volume home bs) n bytes

-- the same of the blocks of a volume; none where the home block has a fault
abbrev pub writes_at : List Block → ℕ → List ℕ → List (ℕ × Block)
writes_at bs n bytes = writes_by bs (home_read (home_at bs)) n bytes

-- ---- what they lead to

-- The new blocks are what all of those writes make of the old ones. They are accepted, and tell the catalogue of the old ones with
-- these bytes in the file.
pub record IsStored (old new : List Block) (n seq : ℕ) (bytes : List ℕ) : Type 0 where
  pub made : new ≡ written (writes_at old n bytes) old
  pub cat : Cat
  pub file : File
  pub told : CatOf old cat
  pub at : in_use cat (record { num = n; seq = seq }) ≡ Some file
  pub accepted : Accepts new
  pub left : CatOf new (with_file cat n (stored file bytes))
  pub stream : stream_at new n seq ≡ Some bytes

-- The new blocks are what the first of those writes make of the old ones. They are accepted, and tell the catalogue of the old ones.
pub record IsUntouched (old new : List Block) (n : ℕ) (bytes : List ℕ) : Type 0 where
  pub count : ℕ
  pub made : new ≡ written (take count (writes_at old n bytes)) old
  pub accepted : Accepts new
  pub left : (c : Cat) → CatOf old c → CatOf new c

-- what a stop may leave: an accepted volume, in which all shows as it did, or the bytes are stored
abbrev pub IsSafe : List Block → ℕ → ℕ → List ℕ → List Block → Type 0
IsSafe old n seq bytes new = IsUntouched old new n bytes ⊎ IsStored old new n seq bytes

-- the image has blocks that a stop may leave
pub record HasSafe (old : List Block) (n seq : ℕ) (bytes : List ℕ) (told now : Option (List Block)) : Type 0 where
  pub blocks : List Block
  pub there : now ≡ told_as told blocks
  pub safe : IsSafe old n seq bytes blocks

-- The first so many of the writes that store the bytes, and no others. All of these are made, up to one that fails, and lead from the
-- old blocks to the new ones. After each number of them, also where the drive stops there, the blocks are accepted, and tell the old
-- catalogue or that with the bytes stored. So do the new ones, and those of the image.
pub record IsStoring (old new : List Block) (n seq : ℕ) (bytes : List ℕ) (told now : Option (List Block)) (before after : ℕ) (Failed : Type 0) : Type 0 where
  pub writes : List (ℕ × Block)
  pub first : (k : ℕ) × (writes ≡ take k (writes_at old n bytes))
  pub safe : (k : ℕ) → IsSafe old n seq bytes (written (take k writes) old)
  pub made : IsMade writes old new told now before after Failed
  pub left : IsSafe old n seq bytes new
  pub image : IsTold told old → HasSafe old n seq bytes told now
