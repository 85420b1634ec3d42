-- A text whose lines are stored as records in a file: when each status is due, what is printed, and what the image has then.
use Rattle.std.specs.Prelude.{◌≡◌, ◌⊎◌, ◌≤◌, ◌++◌, ℕ, List, Option, Some, None, length, codes, decimal}
use Rattle.base_words.specs.Fields.{Block}
use Rattle.base_words.specs.Faults.{Rose}
use Rattle.blk_drive.specs.Images.{IsInside, IsOutside}
use Rattle.vol_parts.specs.Findings.{Accepts}
use Rattle.vol_analyze.specs.Judging.{IsFirstFound}
use Rattle.vol_records.specs.declared.types.StoreFault.{StoreFault}
use Rattle.vol_records.specs.declared.types.StoreFault.TheVariants as store
use Rattle.run_script.specs.Lines.{lines_of}
use Rattle.vol_records.specs.Lines.{long_line}
use Rattle.vol_records.specs.Records.{spelt}
use Rattle.vol_records.specs.Storing.{refusal_at, IsStored, IsSafe}
use Rattle.run_engine.specs.declared.status.Status.{Status}
use Rattle.run_engine.specs.declared.status.Status.TheVariants as status
use Rattle.run_engine.specs.Texts.{IsTooLong, IsAccepted}

-- ---- the text

-- it is within its limit, and none of its lines is too long
pub record IsStorable (bytes : List ℕ) : Type 0 where
  pub within : length bytes ≤ 1048576
  pub short : long_line (lines_of bytes) ≡ None

-- it is within its limit, and this line, counted from 1, is the first that is too long
pub record HasLongLine (k : ℕ) (bytes : List ℕ) : Type 0 where
  pub within : length bytes ≤ 1048576
  pub first : long_line (lines_of bytes) ≡ Some k

-- these are its lines, none of which is too long
pub record IsReadAs (lines : List (List ℕ)) (bytes : List ℕ) : Type 0 where
  pub within : length bytes ≤ 1048576
  pub short : long_line (lines_of bytes) ≡ None
  pub are : lines ≡ lines_of bytes

-- why it gave no lines
abbrev pub IsTextEnd : List ℕ → ℕ → ℕ → Status → Type 0
IsTextEnd bytes before now status.ScriptFault = Rose before now
IsTextEnd bytes before now status.ScriptTooLong = IsTooLong bytes
IsTextEnd bytes before now (status.LineLong k) = HasLongLine k bytes
IsTextEnd bytes before now status.NoMemory = Unit {0}
IsTextEnd bytes before now s = ⊥

-- ---- when a status is due

-- what stands against lines in a file of these blocks, if anything does
abbrev pub against : ℕ → ℕ → List (List ℕ) → List Block → Option StoreFault
against n seq lines bs = refusal_at bs n seq (length (spelt lines))

-- a volume is accepted, and this stands against the lines
pub record IsRefused (n seq : ℕ) (lines : List (List ℕ)) (size : ℕ) (bs : List Block) (fault : StoreFault) : Type 0 where
  pub accepted : IsAccepted size bs
  pub is : against n seq lines bs ≡ Some fault

-- and nothing does
pub record IsTaken (n seq : ℕ) (lines : List (List ℕ)) (size : ℕ) (bs : List Block) : Type 0 where
  pub accepted : IsAccepted size bs
  pub none : against n seq lines bs ≡ None

-- Of lines that are stored. The order is image read, size, acceptance, the file, its room, writes, output.
abbrev pub IsKeepDue : ℕ → ℕ → List (List ℕ) → ℕ → List Block → Status → Type 0
IsKeepDue n seq lines size bs status.Ok = IsTaken n seq lines size bs
IsKeepDue n seq lines size bs status.ImageFault = Unit {0}
IsKeepDue n seq lines size bs (status.BadSize k) = (k ≡ size) × IsOutside size
IsKeepDue n seq lines size bs (status.NotAccepted f) = IsInside size × IsFirstFound bs f
IsKeepDue n seq lines size bs status.NoFile = IsRefused n seq lines size bs store.NoSuchFile
IsKeepDue n seq lines size bs status.NoPriv = IsRefused n seq lines size bs store.NoPriv
IsKeepDue n seq lines size bs status.NotEmpty = IsRefused n seq lines size bs store.NotEmpty
IsKeepDue n seq lines size bs status.NoRoom = IsRefused n seq lines size bs store.NoRoom
IsKeepDue n seq lines size bs status.OutFault = IsTaken n seq lines size bs
IsKeepDue n seq lines size bs status.NoMemory = Unit {0}
IsKeepDue n seq lines size bs s = ⊥

-- Of a text. The order is its read, its length, its lines, and then that of its lines.
abbrev pub IsStoreDue : ℕ → ℕ → List ℕ → ℕ → List Block → Status → Type 0
IsStoreDue n seq bytes size bs status.ScriptFault = Unit {0}
IsStoreDue n seq bytes size bs status.ScriptTooLong = IsTooLong bytes
IsStoreDue n seq bytes size bs (status.LineLong k) = HasLongLine k bytes
IsStoreDue n seq bytes size bs status.NoMemory = Unit {0}
IsStoreDue n seq bytes size bs s = IsStorable bytes × IsKeepDue n seq (lines_of bytes) size bs s

-- ---- what is printed, and what the image has

-- how many records were stored, and how many bytes they are
unfoldable pub stored_text : List (List ℕ) → List ℕ
stored_text lines = codes "stored " ++ (decimal (length lines) ++ (codes " records, " ++ (decimal (length (spelt lines)) ++ codes " bytes\n")))

-- A store that is stopped at a write: the volume is accepted, and nothing stands against the lines; and what the first of its writes
-- make of the old blocks is left, an accepted volume that shows what it did or has the lines stored.
pub record IsStopped (n seq : ℕ) (lines : List (List ℕ)) (old new : List Block) : Type 0 where
  pub accepted : Accepts old
  pub none : against n seq lines old ≡ None
  pub safe : IsSafe old n seq (spelt lines) new

-- after a fault of the image: the old blocks, or those of such a store
abbrev pub IsCutStore : ℕ → ℕ → List (List ℕ) → List Block → List Block → Type 0
IsCutStore n seq lines old new = (new ≡ old) ⊎ IsStopped n seq lines old new

-- After a store: what all of its writes make of the old blocks, with the lines stored; after a fault of the image the old blocks, or, of
-- an accepted volume that takes the lines, what the first of those writes make of them, which tells the old catalogue or that with the
-- lines stored; and else the old blocks.
abbrev pub IsStoreImage : ℕ → ℕ → List (List ℕ) → List Block → List Block → Status → Type 0
IsStoreImage n seq lines old new status.Ok = IsStored old new n seq (spelt lines)
IsStoreImage n seq lines old new status.OutFault = IsStored old new n seq (spelt lines)
IsStoreImage n seq lines old new status.ImageFault = IsCutStore n seq lines old new
IsStoreImage n seq lines old new s = new ≡ old

-- ---- how the steps end

-- the status of a refusal, or of a fault
abbrev pub store_status : StoreFault → Status
store_status store.NoSuchFile = status.NoFile
store_status store.NoPriv = status.NoPriv
store_status store.NotEmpty = status.NotEmpty
store_status store.NoRoom = status.NoRoom
store_status store.NoMemory = status.NoMemory
store_status store.ImageFault = status.ImageFault

-- lines are stored on an image, and this text says so
pub record IsStoredWith (n seq : ℕ) (lines : List (List ℕ)) (size : ℕ) (old new : List Block) (text : List ℕ) : Type 0 where
  pub taken : IsTaken n seq lines size old
  pub stored : IsStored old new n seq (spelt lines)
  pub told : text ≡ stored_text lines

-- why lines were not stored, and what the image has then
abbrev pub IsKeepEnd : ℕ → ℕ → List (List ℕ) → ℕ → List Block → List Block → ℕ → ℕ → Status → Type 0
IsKeepEnd n seq lines size old new had has status.Ok = ⊥
IsKeepEnd n seq lines size old new had has status.OutFault = ⊥
IsKeepEnd n seq lines size old new had has status.ImageFault = Rose had has × IsCutStore n seq lines old new
IsKeepEnd n seq lines size old new had has s = IsKeepDue n seq lines size old s × (new ≡ old)

-- the lines of a text are stored, and this text says so
pub record IsStoredOf (n seq : ℕ) (bytes : List ℕ) (size : ℕ) (old new : List Block) (text : List ℕ) : Type 0 where
  pub storable : IsStorable bytes
  pub kept : IsStoredWith n seq (lines_of bytes) size old new text

-- why they were not
abbrev pub IsStoreEnd : ℕ → ℕ → List ℕ → ℕ → List Block → List Block → ℕ → ℕ → ℕ → ℕ → Status → Type 0
IsStoreEnd n seq bytes size old new read reading had has status.Ok = ⊥
IsStoreEnd n seq bytes size old new read reading had has status.OutFault = ⊥
IsStoreEnd n seq bytes size old new read reading had has status.ScriptFault = Rose read reading × (new ≡ old)
IsStoreEnd n seq bytes size old new read reading had has status.ImageFault = IsStorable bytes × Rose had has × IsCutStore n seq (lines_of bytes) old new
IsStoreEnd n seq bytes size old new read reading had has s = IsStoreDue n seq bytes size old s × (new ≡ old)
