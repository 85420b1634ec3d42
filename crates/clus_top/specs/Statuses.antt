-- What the status of a call says of what came in, and what was written.
use Rattle.std.specs.Prelude.{◌≡◌, ◌++◌, ◌-◌, ℕ, List, Option, Some, None, codes}
use Rattle.base_words.specs.Fields.{Block}
use Rattle.blk_drive.specs.Images.{IsInside, IsOutside}
use Rattle.plain_texts.specs.Reports.{newline}
use Rattle.vol_parts.specs.declared.finding.Finding.{Finding}
use Rattle.vol_parts.specs.Findings.{Weak, IsFirstFatal}
use Rattle.vol_analyze.specs.Judging.{IsFirstFound}
use Rattle.run_engine.specs.declared.status.Status.{Status}
use Rattle.run_engine.specs.declared.status.Status.TheVariants as status
use Rattle.vol_init.specs.declared.layout.Layout.{Layout}
use Rattle.vol_init.specs.Layouts.{total, reserved_clusters}
use Rattle.vol_init.specs.Refusals.{refusal}
use Rattle.run_engine.specs.Scripts.{IsScriptOf}
use Rattle.run_engine.specs.Texts.{IsGood, IsAccepted, IsWordsDue}
use Rattle.run_engine.specs.Verdicts.{IsRunDue}
use Rattle.run_script.specs.Lines.{lines_of}
use Rattle.vol_records.specs.Streams.{stream_at}
use Rattle.clus_top.specs.Words.{Wanted, Run, RunRebuild, Soak, Analyze, Rebuild, Repair, Records, Store, Init}
use Rattle.clus_top.specs.Runs.{IsReport, IsSummary}
use Rattle.clus_top.specs.Mendings.{IsMendingText}
use Rattle.clus_top.specs.MendedRuns.{IsMendedReport, IsMendableThen, IsUnmendable}
use Rattle.clus_top.specs.Records.{HasRecords, IsRecordsText, HasBadRecord}
use Rattle.clus_top.specs.Repairs.{IsRepairDue, IsRepairText}
use Rattle.clus_top.specs.Stores.{IsStoreDue, stored_text}
use Rattle.run_engine.specs.Summaries.{counted}

-- ---- volumes

-- something is found in the blocks
pub record HasFindings (bs : List Block) : Type 0 where
  pub first : Finding
  pub found : IsFirstFound bs first

-- ---- when a status is due

-- Of a run that is mended then. The order is that of a run, and then whether the catalogue to which it leads can be mended.
abbrev pub IsRunRebuildDue : List ℕ → ℕ → List Block → Status → Type 0
IsRunRebuildDue bytes size bs status.Ok = IsGood bytes × IsAccepted size bs × IsMendableThen (IsScriptOf bytes) bs
IsRunRebuildDue bytes size bs (status.NotMendable f) = IsGood bytes × IsAccepted size bs × IsUnmendable (IsScriptOf bytes) bs f
IsRunRebuildDue bytes size bs status.OutFault = IsGood bytes × IsAccepted size bs × IsMendableThen (IsScriptOf bytes) bs
IsRunRebuildDue bytes size bs s = IsRunDue bytes size bs s

-- Of a soak, which reads no script. The order is image read, size, acceptance, output.
abbrev pub IsSoakDue : ℕ → ℕ → List Block → Status → Type 0
IsSoakDue n size bs status.Ok = IsAccepted size bs
IsSoakDue n size bs status.ImageFault = Unit {0}
IsSoakDue n size bs (status.BadSize k) = (k ≡ size) × IsOutside size
IsSoakDue n size bs (status.NotAccepted f) = IsInside size × IsFirstFound bs f
IsSoakDue n size bs status.OutFault = IsAccepted size bs
IsSoakDue n size bs status.NoMemory = Unit {0}
IsSoakDue n size bs s = ⊥

-- Of an analysis. The order is image read, size, findings, output.
abbrev pub IsAnalysisDue : ℕ → List Block → Status → Type 0
IsAnalysisDue size bs status.Ok = IsAccepted size bs
IsAnalysisDue size bs status.ImageFault = Unit {0}
IsAnalysisDue size bs (status.BadSize n) = (n ≡ size) × IsOutside size
IsAnalysisDue size bs status.Findings = IsInside size × HasFindings bs
IsAnalysisDue size bs status.OutFault = IsAccepted size bs
IsAnalysisDue size bs status.NoMemory = Unit {0}
IsAnalysisDue size bs s = ⊥

-- an image of a volume's size has no fatal finding
pub record IsMendable (size : ℕ) (bs : List Block) : Type 0 where
  pub inside : IsInside size
  pub weak : Weak bs

-- Of a mending. The order is image read, size, the fatal findings, writes, output.
abbrev pub IsRebuildDue : ℕ → List Block → Status → Type 0
IsRebuildDue size bs status.Ok = IsMendable size bs
IsRebuildDue size bs status.ImageFault = Unit {0}
IsRebuildDue size bs (status.BadSize n) = (n ≡ size) × IsOutside size
IsRebuildDue size bs (status.NotMendable f) = IsInside size × IsFirstFatal bs f
IsRebuildDue size bs status.OutFault = IsMendable size bs
IsRebuildDue size bs status.NoMemory = Unit {0}
IsRebuildDue size bs s = ⊥

-- Of the records of a file. The order is image read, size, acceptance, the file, its records, output.
abbrev pub IsRecordsDue : ℕ → ℕ → ℕ → List Block → Status → Type 0
IsRecordsDue n seq size bs status.Ok = IsAccepted size bs × HasRecords n seq bs
IsRecordsDue n seq size bs status.ImageFault = Unit {0}
IsRecordsDue n seq size bs (status.BadSize k) = (k ≡ size) × IsOutside size
IsRecordsDue n seq size bs (status.NotAccepted f) = IsInside size × IsFirstFound bs f
IsRecordsDue n seq size bs status.NoFile = IsAccepted size bs × (stream_at bs n seq ≡ None)
IsRecordsDue n seq size bs (status.BadRecord at) = IsAccepted size bs × HasBadRecord n seq bs at
IsRecordsDue n seq size bs status.OutFault = IsAccepted size bs × HasRecords n seq bs
IsRecordsDue n seq size bs status.NoMemory = Unit {0}
IsRecordsDue n seq size bs s = ⊥

-- the layout of a volume of so many blocks
abbrev pub sized : ℕ → ℕ → ℕ → Layout
sized cluster files size = record { cluster = cluster; files = files; blocks = size }

-- an image of this size can be formatted
pub record IsPossible (cluster files : ℕ) (label : List ℕ) (size : ℕ) : Type 0 where
  pub inside : IsInside size
  pub possible : refusal (sized cluster files size) label ≡ None

-- Of a format. The order is image read, size, what is refused, writes, output.
abbrev pub IsInitDue : ℕ → ℕ → List ℕ → ℕ → Status → Type 0
IsInitDue cluster files label size status.Ok = IsPossible cluster files label size
IsInitDue cluster files label size status.ImageFault = Unit {0}
IsInitDue cluster files label size (status.BadSize n) = (n ≡ size) × IsOutside size
IsInitDue cluster files label size (status.BadInit f) = IsInside size × (refusal (sized cluster files size) label ≡ Some f)
IsInitDue cluster files label size status.OutFault = IsPossible cluster files label size
IsInitDue cluster files label size status.NoMemory = Unit {0}
IsInitDue cluster files label size s = ⊥

-- What a status says of the job, of the script, of the image's size and of its blocks. The conditions of
-- the statuses that are no fault and no want of memory exclude one another.
abbrev pub IsDue : Option Wanted → List ℕ → ℕ → List Block → Status → Type 0
IsDue None bytes size bs s = IsWordsDue s
IsDue (Some Run) bytes size bs s = IsRunDue bytes size bs s
IsDue (Some RunRebuild) bytes size bs s = IsRunRebuildDue bytes size bs s
IsDue (Some (Soak n)) bytes size bs s = IsSoakDue n size bs s
IsDue (Some Analyze) bytes size bs s = IsAnalysisDue size bs s
IsDue (Some Rebuild) bytes size bs s = IsRebuildDue size bs s
IsDue (Some Repair) bytes size bs s = IsRepairDue size bs s
IsDue (Some (Records n seq)) bytes size bs s = IsRecordsDue n seq size bs s
IsDue (Some (Store n seq)) bytes size bs s = IsStoreDue n seq bytes size bs s
IsDue (Some (Init cluster files label)) bytes size bs s = IsInitDue cluster files label size s

-- ---- what is written

-- what an analysis says of a volume in which nothing is found
abbrev pub accepted_text : List ℕ
accepted_text = codes "accepted" ++ newline

-- what a fresh volume has: all clusters but those of the system files are free, and all numbers but theirs
unfoldable pub room_text : Layout → List ℕ
room_text l =
    counted l.blocks (codes " blocks, ")
    ++ (counted (total l - reserved_clusters l) (codes " free clusters, ") ++ counted (l.files - 11) (codes " free numbers" ++ newline))

-- what is said of a volume that was made
unfoldable pub made_text : List ℕ → Layout → List ℕ
made_text label l = codes "volume " ++ (label ++ (codes ": " ++ room_text l))

-- the text of status 0 of a job, on the blocks that the image has before it and behind it
abbrev pub IsTextOf : Option Wanted → List ℕ → ℕ → List Block → List Block → List ℕ → Type 0
IsTextOf None bytes size old new text = ⊥
IsTextOf (Some Run) bytes size old new text = IsReport (IsScriptOf bytes) old new text
IsTextOf (Some RunRebuild) bytes size old new text = IsMendedReport (IsScriptOf bytes) old new text
IsTextOf (Some (Soak n)) bytes size old new text = IsSummary n old new text
IsTextOf (Some Analyze) bytes size old new text = text ≡ accepted_text
IsTextOf (Some Rebuild) bytes size old new text = IsMendingText old new text
IsTextOf (Some Repair) bytes size old new text = IsRepairText old new text
IsTextOf (Some (Records n seq)) bytes size old new text = IsRecordsText n seq old text
IsTextOf (Some (Store n seq)) bytes size old new text = text ≡ stored_text (lines_of bytes)
IsTextOf (Some (Init cluster files label)) bytes size old new text = text ≡ made_text label (sized cluster files size)
