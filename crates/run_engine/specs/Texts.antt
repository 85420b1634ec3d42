-- What a status says of a script and a volume, its text, and what is written.
use Rattle.std.specs.Prelude.{◌≡◌, ◌<◌, ◌≤◌, ◌++◌, ℕ, List, [], Option, codes, decimal, flat_map, length}
use Rattle.std.specs.Io.KnownBytes.{Appends}
use Rattle.base_words.specs.Fields.{Block}
use Rattle.blk_drive.specs.Images.{IsInside}
use Rattle.fx_text.specs.Streams.{AppendsStart}
use Rattle.plain_texts.specs.Reports.{newline}
use Rattle.vol_parts.specs.declared.finding.Finding.{Finding}
use Rattle.vol_parts.specs.Findings.{AreFindings, Accepts}
use Rattle.vol_analyze.specs.Texts.{finding_text}
use Rattle.plain_cat.specs.declared.script.Script.{Script}
use Rattle.run_script.specs.Lines.{lines_of}
use Rattle.run_script.specs.Spelling.{SpellsScript, IsBadLine, IsTooMany}
use Rattle.run_engine.specs.declared.status.Status.{Status}
use Rattle.run_engine.specs.declared.status.Status.TheVariants as status
use Rattle.vol_init.specs.declared.fault.InitFault.{InitFault}
use Rattle.vol_init.specs.declared.fault.InitFault.TheVariants as fault
use Rattle.run_engine.specs.Reports.{lines_bytes}
use Rattle.plain_cat.specs.declared.history.Entry.{Entry}
use Rattle.fx_text.specs.Written.{IsWritten}

-- why an image is not formatted
unfoldable pub init_fault_text : InitFault → List ℕ
init_fault_text fault.BadCluster = codes "bad cluster"
init_fault_text fault.BadFiles = codes "bad files"
init_fault_text fault.BadLabel = codes "bad label"
init_fault_text fault.TooSmall = codes "too small"
init_fault_text fault.NoMemory = codes "no memory"
init_fault_text fault.ImageFault = codes "image fault"

-- the text of a status, but of 0, of 6 and of findings
unfoldable pub status_text : Status → List ℕ
status_text status.Ok = []
status_text status.BadWords = codes "bad words" ++ newline
status_text status.ScriptFault = codes "script fault" ++ newline
status_text status.ScriptTooLong = codes "script too long" ++ newline
status_text (status.BadScript n) = codes "bad line " ++ (decimal n ++ newline)
status_text status.TooMany = codes "too many" ++ newline
status_text status.ImageFault = codes "image fault" ++ newline
status_text (status.BadSize n) = codes "bad size " ++ (decimal n ++ newline)
status_text (status.NotAccepted f) = codes "not accepted: " ++ (finding_text f ++ newline)
status_text status.Findings = []
status_text (status.NotMendable f) = codes "not mendable: " ++ (finding_text f ++ newline)
status_text status.OutFault = []
status_text status.NoMemory = codes "no memory" ++ newline
status_text (status.BadInit f) = init_fault_text f ++ newline
status_text (status.BadRecord at) = codes "bad record at " ++ (decimal at ++ newline)
status_text status.NoFile = codes "no such file" ++ newline
status_text (status.LineLong k) = codes "line " ++ (decimal k ++ codes " too long\n")
status_text status.NoPriv = codes "no privilege" ++ newline
status_text status.NotEmpty = codes "not empty" ++ newline
status_text status.NoRoom = codes "no room" ++ newline
status_text (status.NotRepairable f) = codes "not repairable: " ++ (finding_text f ++ newline)
status_text (status.RepairNoRoom f) = codes "no room: " ++ (finding_text f ++ newline)

-- the text of a run that a write of the image has cut short: the lines of the answers so far, and that of the fault
abbrev pub cut_text : List Entry → List ℕ
cut_text h = lines_bytes h ++ status_text status.ImageFault

-- that of a run whose drive cannot be mended
abbrev pub unmended_text : List Entry → Finding → List ℕ
unmended_text h f = lines_bytes h ++ status_text (status.NotMendable f)

-- a script has more bytes than are read
abbrev pub IsTooLong : List ℕ → Type 0
IsTooLong bytes = 1048576 < length bytes

-- a script has a first bad line, with this number
pub record IsBad (n : ℕ) (bytes : List ℕ) : Type 0 where
  pub within : length bytes ≤ 1048576
  pub bad : IsBadLine (lines_of bytes) n

-- a script has one command or some plays too many, before any bad line
pub record IsOverfull (bytes : List ℕ) : Type 0 where
  pub within : length bytes ≤ 1048576
  pub over : IsTooMany (lines_of bytes)

-- a script is read
pub record IsGood (bytes : List ℕ) : Type 0 where
  pub within : length bytes ≤ 1048576
  pub script : Script
  pub spelt : SpellsScript (lines_of bytes) script

-- an image of a volume's size is accepted
pub record IsAccepted (size : ℕ) (bs : List Block) : Type 0 where
  pub inside : IsInside size
  pub accepted : Accepts bs

-- where the words have no reading
abbrev pub IsWordsDue : Status → Type 0
IsWordsDue status.BadWords = Unit {0}
IsWordsDue status.NoMemory = Unit {0}
IsWordsDue s = ⊥

-- the line of a finding
abbrev pub finding_line : Finding → List ℕ
finding_line f = finding_text f ++ newline

-- one line for each finding
abbrev pub findings_text : List Finding → List ℕ
findings_text fs = flat_map finding_line fs

-- a text is that of the findings of these blocks
pub record IsFindingsText (text : List ℕ) (bs : List Block) : Type 0 where
  pub findings : List Finding
  pub found : AreFindings bs findings
  pub written : text ≡ findings_text findings

-- the text of a status alone
abbrev pub IsPlainText : Status → List ℕ → Type 0
IsPlainText s text = text ≡ status_text s

-- What was written at a status, where R is said of the text of status 0, and F of the text of a fault of the image and of a volume that
-- cannot be mended: all of that text, or first bytes of it where the sink fails; the findings; or the text of the status.
abbrev pub Writes : (R : List ℕ → Type 0) → (F : Status → List ℕ → Type 0) → List Block → Option (List ℕ) → Option (List ℕ) → ℕ → ℕ → Status → Type 0
Writes R F bs old new before now status.Ok = (text : List ℕ) × R text × Appends old new text
Writes R F bs old new before now status.OutFault = (text : List ℕ) × R text × AppendsStart old new text
Writes R F bs old new before now status.Findings = (text : List ℕ) × IsFindingsText text bs × IsWritten old new before now text
Writes R F bs old new before now status.ImageFault = (text : List ℕ) × F status.ImageFault text × IsWritten old new before now text
Writes R F bs old new before now (status.NotMendable f) = (text : List ℕ) × F (status.NotMendable f) text × IsWritten old new before now text
Writes R F bs old new before now s = IsWritten old new before now (status_text s)
