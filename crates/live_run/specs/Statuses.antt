-- What the status of a live call says of what came in, what was written, and what the image has.
use Rattle.std.specs.Prelude.{◌≡◌, ◌⊎◌, ℕ, List, Option, Some, None}
use Rattle.base_words.specs.Fields.{Block}
use Rattle.base_words.specs.Faults.{Rose}
use Rattle.blk_drive.specs.Images.{IsInside, IsOutside}
use Rattle.plain_cat.specs.declared.script.Script.{Script}
use Rattle.vol_parts.specs.declared.finding.Finding.{Finding}
use Rattle.vol_analyze.specs.Judging.{IsFirstFound}
use Rattle.run_engine.specs.declared.status.Status.{Status}
use Rattle.run_engine.specs.declared.status.Status.TheVariants as status
use Rattle.run_engine.specs.Scripts.{IsScriptOf}
use Rattle.run_engine.specs.Texts.{IsTooLong, IsBad, IsOverfull, IsGood, IsAccepted, IsWordsDue, IsPlainText, status_text}
use Rattle.run_engine.specs.Verdicts.{IsRunDue}
use Rattle.run_engine.specs.declared.over_mending.Halt.{Halt}
use Rattle.run_engine.specs.declared.over_mending.Halt.TheVariants as halt
use Rattle.live_run.specs.declared.words.Job.{Job}
use Rattle.live_run.specs.Lives.{IsEnd, IsCut, IsLacking, IsUnmended}

-- ---- on an image

-- why a script came to no end on an image, but for a write that failed and a drive that cannot be mended, and what the image has then
abbrev pub IsImageEnd : Job → Script → ℕ → List Block → List Block → ℕ → ℕ → ℕ → ℕ → Status → Type 0
IsImageEnd what script size old new had has lost losing status.ImageFault = Rose had has × (new ≡ old) × (losing ≡ lost)
IsImageEnd what script size old new had has lost losing (status.BadSize n) = ((n ≡ size) × IsOutside size) × (new ≡ old)
IsImageEnd what script size old new had has lost losing (status.NotAccepted f) = (IsInside size × IsFirstFound old f) × (new ≡ old)
IsImageEnd what script size old new had has lost losing status.NoMemory = (new ≡ old) ⊎ IsLacking what script old new
IsImageEnd what script size old new had has lost losing s = ⊥

-- why it came to none
abbrev pub IsImageHalt : Job → Script → ℕ → List Block → List Block → ℕ → ℕ → ℕ → ℕ → Halt → Type 0
IsImageHalt what script size old new had has lost losing (halt.Cut text) = Rose had has × IsCut what script old new text.items
IsImageHalt what script size old new had has lost losing halt.NoLines = Rose had has × ((text : List ℕ) × IsCut what script old new text)
IsImageHalt what script size old new had has lost losing (halt.Unmended text f) = IsAccepted size old × IsUnmended what script old new f text.items
IsImageHalt what script size old new had has lost losing (halt.By s) = IsImageEnd what script size old new had has lost losing s

-- ---- of the script that is read

-- this holds of a script that the bytes spell
pub record OfGiven (bytes : List ℕ) (P : Script → Type 0) : Type 0 where
  pub script : Script
  pub given : IsScriptOf bytes script
  pub holds : P script

-- the text is that of a call that came to its end
abbrev pub IsReportOn : Job → List ℕ → List Block → List Block → List ℕ → Type 0
IsReportOn what bytes old new text = OfGiven bytes (λ script. IsEnd what script old new text)

-- a call has this report
pub record IsReported (what : Job) (bytes : List ℕ) (size : ℕ) (old new : List Block) (text : List ℕ) : Type 0 where
  pub good : IsGood bytes
  pub accepted : IsAccepted size old
  pub report : IsReportOn what bytes old new text

-- The text of a fault of the image, whose count of lost writes was `lost` and is `losing`: that of a call that a write cut short; or that of
-- the status alone, only if no write was lost, and the image has its blocks. The text of a drive that cannot be mended has the lines of the history in front.
abbrev pub IsLiveFaultText : Job → List ℕ → ℕ → ℕ → List Block → List Block → Status → List ℕ → Type 0
IsLiveFaultText what bytes lost losing old new status.ImageFault text =
    ((new ≡ old) × (losing ≡ lost) × (text ≡ status_text status.ImageFault)) ⊎ OfGiven bytes (λ script. IsCut what script old new text)
IsLiveFaultText what bytes lost losing old new (status.NotMendable f) text = OfGiven bytes (λ script. IsUnmended what script old new f text)
IsLiveFaultText what bytes lost losing old new s text = IsPlainText s text

-- the drive cannot be mended, by this finding
abbrev pub IsUnmendedOn : Job → List ℕ → List Block → List Block → Finding → Type 0
IsUnmendedOn what bytes old new f = OfGiven bytes (λ script. (text : List ℕ) × IsUnmended what script old new f text)

-- ---- when a status is due

-- The order is that of a run, and then whether the drive can be mended.
abbrev pub IsLiveDue : Job → List ℕ → ℕ → List Block → List Block → Status → Type 0
IsLiveDue what bytes size old new (status.NotMendable f) = IsGood bytes × IsAccepted size old × IsUnmendedOn what bytes old new f
IsLiveDue what bytes size old new s = IsRunDue bytes size old s

-- of a call whose words ask for a job, or have no reading
abbrev pub IsDue : Option Job → List ℕ → ℕ → List Block → List Block → Status → Type 0
IsDue (Some what) bytes size old new s = IsLiveDue what bytes size old new s
IsDue None bytes size old new s = IsWordsDue s

-- ---- what was written, and what the image has

-- the text of status 0, and that of a fault of the image or of a drive that cannot be mended
abbrev pub IsTextOf : Option Job → List ℕ → List Block → List Block → List ℕ → Type 0
IsTextOf (Some what) bytes old new text = IsReportOn what bytes old new text
IsTextOf None bytes old new text = ⊥

abbrev pub IsFaultTextOf : Option Job → List ℕ → ℕ → ℕ → List Block → List Block → Status → List ℕ → Type 0
IsFaultTextOf (Some what) bytes lost losing old new s text = IsLiveFaultText what bytes lost losing old new s text
IsFaultTextOf None bytes lost losing old new s text = IsPlainText s text

-- a call has come to its end, and left the image so
abbrev pub IsEndOn : Job → List ℕ → List Block → List Block → Type 0
IsEndOn what bytes old new = OfGiven bytes (λ script. (text : List ℕ) × IsEnd what script old new text)

-- After the call: what its end leaves; if the drive cannot be mended, that drive; after a fault of the image the old blocks, or what a write
-- that failed has left; after want of memory the old blocks, or the drive as far as the call came, or one that mends to the same, or what a
-- write that failed has left, if the lines of the answers before it found no memory. And else the old blocks.
abbrev pub IsLiveImage : Job → List ℕ → List Block → List Block → Status → Type 0
IsLiveImage what bytes old new status.Ok = IsEndOn what bytes old new
IsLiveImage what bytes old new status.OutFault = IsEndOn what bytes old new
IsLiveImage what bytes old new (status.NotMendable f) = IsUnmendedOn what bytes old new f
IsLiveImage what bytes old new status.NoMemory = (new ≡ old) ⊎ OfGiven bytes (λ script. IsLacking what script old new)
IsLiveImage what bytes old new status.ImageFault = (new ≡ old) ⊎ OfGiven bytes (λ script. (text : List ℕ) × IsCut what script old new text)
IsLiveImage what bytes old new s = new ≡ old

abbrev pub IsImageAfter : Option Job → List ℕ → List Block → List Block → Status → Type 0
IsImageAfter (Some what) bytes old new s = IsLiveImage what bytes old new s
IsImageAfter None bytes old new s = new ≡ old

-- ---- how a call came to no report

-- of the script, of the load, or of the blocks
abbrev pub IsRunEnd : Job → List ℕ → ℕ → List Block → List Block → ℕ → ℕ → ℕ → ℕ → ℕ → ℕ → Status → Type 0
IsRunEnd what bytes size old new read reading had has lost losing status.ScriptFault = Rose read reading × (new ≡ old)
IsRunEnd what bytes size old new read reading had has lost losing status.ScriptTooLong = IsTooLong bytes × (new ≡ old)
IsRunEnd what bytes size old new read reading had has lost losing (status.BadScript n) = IsBad n bytes × (new ≡ old)
IsRunEnd what bytes size old new read reading had has lost losing status.TooMany = IsOverfull bytes × (new ≡ old)
IsRunEnd what bytes size old new read reading had has lost losing status.ImageFault = IsGood bytes × Rose had has × (new ≡ old) × (losing ≡ lost)
IsRunEnd what bytes size old new read reading had has lost losing (status.BadSize n) = (IsGood bytes × (n ≡ size) × IsOutside size) × (new ≡ old)
IsRunEnd what bytes size old new read reading had has lost losing (status.NotAccepted f) = (IsGood bytes × IsInside size × IsFirstFound old f) × (new ≡ old)
IsRunEnd what bytes size old new read reading had has lost losing status.NoMemory = (new ≡ old) ⊎ OfGiven bytes (λ script. IsLacking what script old new)
IsRunEnd what bytes size old new read reading had has lost losing s = ⊥

-- or a write cut it short, or its drive cannot be mended
abbrev pub IsRunHalt : Job → List ℕ → ℕ → List Block → List Block → ℕ → ℕ → ℕ → ℕ → ℕ → ℕ → Halt → Type 0
IsRunHalt what bytes size old new read reading had has lost losing (halt.Cut text) =
    IsGood bytes × Rose had has × OfGiven bytes (λ script. IsCut what script old new text.items)
IsRunHalt what bytes size old new read reading had has lost losing halt.NoLines =
    IsGood bytes × Rose had has × OfGiven bytes (λ script. (text : List ℕ) × IsCut what script old new text)
IsRunHalt what bytes size old new read reading had has lost losing (halt.Unmended text f) =
    IsGood bytes × IsAccepted size old × OfGiven bytes (λ script. IsUnmended what script old new f text.items)
IsRunHalt what bytes size old new read reading had has lost losing (halt.By s) = IsRunEnd what bytes size old new read reading had has lost losing s
