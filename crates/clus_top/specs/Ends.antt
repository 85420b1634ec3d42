-- How the steps of a job end.
use Rattle.std.specs.Prelude.{◌≡◌, ◌⊎◌, ℕ, false, List, [], ◌∷◌, Some, None}
use Rattle.std.specs.List.{list_any}
use Rattle.base_words.specs.Fields.{Block}
use Rattle.base_words.specs.Faults.{Rose}
use Rattle.blk_drive.specs.Images.{IsInside, IsOutside}
use Rattle.plain_cat.specs.declared.cat.Cat.{Cat}
use Rattle.plain_cat.specs.declared.script.Script.{Script}
use Rattle.plain_rules.specs.Own.{Whole, Killed, is_mending}
use Rattle.plain_rules.specs.Replaying.{Replays}
use Rattle.core_state.specs.Worlds.{Plain}
use Rattle.run_engine.specs.Walks.{played, budget_of, IsRotatedIn, IsNextIn, IsBeforeWrite}
use Rattle.core_state.specs.Ends.{AllOver}
use Rattle.run_engine.specs.Ended.{IsSpelt}
use Rattle.vol_parts.specs.declared.finding.Finding.{Finding}
use Rattle.vol_parts.specs.declared.geometry.Geometry.{Geometry}
use Rattle.vol_parts.specs.Findings.{Accepts, CatOf, IsFirstFatal}
use Rattle.vol_analyze.specs.Judging.{IsFirstFound}
use Rattle.run_engine.specs.declared.stop.Stop.{Stop}
use Rattle.run_engine.specs.declared.stop.Stop.TheVariants as stop
use Rattle.run_engine.specs.Stops.{report_text}
use Rattle.run_engine.specs.Scripts.{IsScriptOf}
use Rattle.run_engine.specs.Texts.{IsTooLong, IsBad, IsOverfull, IsGood, IsAccepted, cut_text}
use Rattle.clus_top.specs.declared.run_job.Printed.{Printed}
use Rattle.clus_top.specs.declared.run_job.Printed.TheVariants as printed
use Rattle.run_engine.specs.declared.status.Status.{Status}
use Rattle.run_engine.specs.declared.status.Status.TheVariants as status
use Rattle.clus_top.specs.Runs.{IsSoakOf, IsReport, IsSummary, summary_text, HasRun, LacksMemory}
use Rattle.vol_init.specs.declared.fault.InitFault.{InitFault}
use Rattle.vol_init.specs.declared.fault.InitFault.TheVariants as fault
use Rattle.vol_init.specs.Made.{IsMade}
use Rattle.vol_init.specs.Refusals.{refusal, home_of}
use Rattle.vol_rebuild.specs.declared.fault.RebuildFault.{RebuildFault}
use Rattle.vol_rebuild.specs.declared.fault.RebuildFault.TheVariants as rebuild
use Rattle.vol_records.specs.Streams.{stream_at}
use Rattle.clus_top.specs.Mendings.{IsMendingText, IsStillToMend}
use Rattle.vol_records.specs.Records.{records_of}
use Rattle.clus_top.specs.Records.{IsRecordsText, IsBadAt, HasBadRecord}
use Rattle.clus_top.specs.Statuses.{IsMendable, IsPossible, sized, made_text}
use Rattle.clus_top.specs.Images.{IsLastDriveOf, IsLackingDriveOf, IsCutOf, IsCutShort}

-- what is printed of a world whose history leads to a catalogue
abbrev pub printed_text : Printed → Plain → Cat → List ℕ
printed_text printed.Report w c = report_text w.history c
printed_text (printed.Summary n) w c = summary_text n w c

-- a world has run a script to its end on the catalogue that blocks tell, in which nothing is found, and this is what it leaves there, with
-- the volume's parts at these places
pub record IsWholeIn (script : Script) (bs : List Block) (g : Geometry) (w : Plain) : Type 0 where
  pub opening : Cat
  pub after : Cat
  pub accepted : Accepts bs
  pub told : CatOf bs opening
  pub replayed : Replays opening script w.history after
  pub whole : Whole script w.history
  pub killed : Killed script w.history
  pub unmended : list_any is_mending w.history ≡ false
  pub left : IsSpelt g w.blocks after

-- the image has the drive of a world that has run a script on these blocks
pub record IsDriveIn (script : Script) (bs new : List Block) : Type 0 where
  pub world : Plain
  pub ran : HasRun script bs world
  pub image : new ≡ world.blocks

-- and the world has come to its end, of which this text is printed
pub record IsEndIn (what : Printed) (script : Script) (bs new : List Block) (text : List ℕ) : Type 0 where
  pub drive : IsDriveIn script bs new
  pub walked : IsRotatedIn (budget_of drive.ran.start) (played script.plays drive.ran.start) drive.world
  pub over : AllOver drive.world
  pub left : IsWholeIn script bs drive.ran.start.geometry drive.world
  pub written : text ≡ printed_text what drive.world left.after

-- and it may lack memory there
pub record IsLackingIn (script : Script) (bs new : List Block) : Type 0 where
  pub drive : IsDriveIn script bs new
  pub lacks : LacksMemory drive.ran.start script.plays drive.world

-- A world has run a script as far as to a write of the node whose turn it is, and the image has the blocks from before that turn,
-- or those that it would have left.
pub record IsCutIn (script : Script) (bs new : List Block) : Type 0 where
  pub world : Plain
  pub ran : HasRun script bs world
  pub before : IsBeforeWrite (IsNextIn ran.start script.plays world) bs (Some bs) (Some new) world

-- with this text
pub record IsCutShortIn (script : Script) (bs new : List Block) (text : List ℕ) : Type 0 where
  pub cut : IsCutIn script bs new
  pub written : text ≡ cut_text cut.world.history

-- Why a script came to no end on the blocks of a volume, but for a write that failed, and what the image has then.
abbrev pub IsStopIn : Script → List Block → List Block → Status → Type 0
IsStopIn script bs new (status.NotAccepted f) = IsFirstFound bs f × (new ≡ bs)
IsStopIn script bs new status.NoMemory = (new ≡ bs) ⊎ IsLackingIn script bs new
IsStopIn script bs new s = ⊥

-- why it came to none
abbrev pub IsStopBy : Script → List Block → List Block → ℕ → ℕ → Stop → Type 0
IsStopBy script bs new had has (stop.Cut text) = Rose had has × IsCutShortIn script bs new text.items
IsStopBy script bs new had has stop.NoLines = Rose had has × IsCutIn script bs new
IsStopBy script bs new had has (stop.By s) = IsStopIn script bs new s

-- Why a script came to no end on an image, but for a write that failed: of the load, in which no write was lost, or of the blocks; and what
-- the image has then. Of the four counts two are of failed calls, and two of lost writes.
abbrev pub IsImageEnd : Script → ℕ → List Block → List Block → ℕ → ℕ → ℕ → ℕ → Status → Type 0
IsImageEnd script size old new had has lost losing status.ImageFault = Rose had has × (new ≡ old) × (losing ≡ lost)
IsImageEnd script size old new had has lost losing (status.BadSize n) = ((n ≡ size) × IsOutside size) × (new ≡ old)
IsImageEnd script size old new had has lost losing (status.NotAccepted f) = (IsInside size × IsFirstFound old f) × (new ≡ old)
IsImageEnd script size old new had has lost losing status.NoMemory = (new ≡ old) ⊎ IsLackingIn script old new
IsImageEnd script size old new had has lost losing s = ⊥

-- why it came to none
abbrev pub IsImageStop : Script → ℕ → List Block → List Block → ℕ → ℕ → ℕ → ℕ → Stop → Type 0
IsImageStop script size old new had has lost losing (stop.Cut text) = Rose had has × IsCutShortIn script old new text.items
IsImageStop script size old new had has lost losing stop.NoLines = Rose had has × IsCutIn script old new
IsImageStop script size old new had has lost losing (stop.By s) = IsImageEnd script size old new had has lost losing s

-- a run of the script that these bytes spell has come to its end, and this is its report
pub record IsReported (bytes : List ℕ) (size : ℕ) (old new : List Block) (text : List ℕ) : Type 0 where
  pub good : IsGood bytes
  pub accepted : IsAccepted size old
  pub report : IsReport (IsScriptOf bytes) old new text
  pub drive : IsLastDriveOf (IsScriptOf bytes) old new

-- and a soak, with its summary
pub record IsSummarized (n size : ℕ) (old new : List Block) (text : List ℕ) : Type 0 where
  pub accepted : IsAccepted size old
  pub summary : IsSummary n old new text
  pub drive : IsLastDriveOf (IsSoakOf n) old new

-- Why a run gave no report, but for a write that failed: of the script, of the load, or of the blocks; and what the image has then.
abbrev pub IsRunEnd : List ℕ → ℕ → List Block → List Block → ℕ → ℕ → ℕ → ℕ → ℕ → ℕ → Status → Type 0
IsRunEnd bytes size old new read reading had has lost losing status.ScriptFault = Rose read reading × (new ≡ old)
IsRunEnd bytes size old new read reading had has lost losing status.ScriptTooLong = IsTooLong bytes × (new ≡ old)
IsRunEnd bytes size old new read reading had has lost losing (status.BadScript n) = IsBad n bytes × (new ≡ old)
IsRunEnd bytes size old new read reading had has lost losing status.TooMany = IsOverfull bytes × (new ≡ old)
IsRunEnd bytes size old new read reading had has lost losing status.ImageFault = IsGood bytes × Rose had has × (new ≡ old) × (losing ≡ lost)
IsRunEnd bytes size old new read reading had has lost losing (status.BadSize n) = (IsGood bytes × (n ≡ size) × IsOutside size) × (new ≡ old)
IsRunEnd bytes size old new read reading had has lost losing (status.NotAccepted f) = (IsGood bytes × IsInside size × IsFirstFound old f) × (new ≡ old)
IsRunEnd bytes size old new read reading had has lost losing status.NoMemory = (new ≡ old) ⊎ IsLackingDriveOf (IsScriptOf bytes) old new
IsRunEnd bytes size old new read reading had has lost losing s = ⊥

-- why it gave none
abbrev pub IsRunStop : List ℕ → ℕ → List Block → List Block → ℕ → ℕ → ℕ → ℕ → ℕ → ℕ → Stop → Type 0
IsRunStop bytes size old new read reading had has lost losing (stop.Cut text) = IsGood bytes × Rose had has × IsCutShort (IsScriptOf bytes) old new text.items
IsRunStop bytes size old new read reading had has lost losing stop.NoLines = IsGood bytes × Rose had has × IsCutOf (IsScriptOf bytes) old new
IsRunStop bytes size old new read reading had has lost losing (stop.By s) = IsRunEnd bytes size old new read reading had has lost losing s

-- Why a soak gave no summary, but for a write that failed: of the load, or of the blocks; and what the image has then.
abbrev pub IsSoakEnd : ℕ → ℕ → List Block → List Block → ℕ → ℕ → ℕ → ℕ → Status → Type 0
IsSoakEnd n size old new had has lost losing status.ImageFault = Rose had has × (new ≡ old) × (losing ≡ lost)
IsSoakEnd n size old new had has lost losing (status.BadSize k) = ((k ≡ size) × IsOutside size) × (new ≡ old)
IsSoakEnd n size old new had has lost losing (status.NotAccepted f) = (IsInside size × IsFirstFound old f) × (new ≡ old)
IsSoakEnd n size old new had has lost losing status.NoMemory = (new ≡ old) ⊎ IsLackingDriveOf (IsSoakOf n) old new
IsSoakEnd n size old new had has lost losing s = ⊥

-- why it gave none
abbrev pub IsSoakStop : ℕ → ℕ → List Block → List Block → ℕ → ℕ → ℕ → ℕ → Stop → Type 0
IsSoakStop n size old new had has lost losing (stop.Cut text) = Rose had has × IsCutShort (IsSoakOf n) old new text.items
IsSoakStop n size old new had has lost losing stop.NoLines = Rose had has × IsCutOf (IsSoakOf n) old new
IsSoakStop n size old new had has lost losing (stop.By s) = IsSoakEnd n size old new had has lost losing s

-- the status after findings are told
abbrev pub IsFoundEnd : List Finding → Status → Type 0
IsFoundEnd [] status.Ok = Unit {0}
IsFoundEnd [] status.OutFault = Unit {0}
IsFoundEnd [] s = ⊥
IsFoundEnd (f ∷ fs) status.Findings = Unit {0}
IsFoundEnd (f ∷ fs) status.NoMemory = Unit {0}
IsFoundEnd (f ∷ fs) s = ⊥

-- why an image gave no findings
abbrev pub IsLoadEnd : ℕ → ℕ → ℕ → Status → Type 0
IsLoadEnd size had has status.ImageFault = Rose had has
IsLoadEnd size had has (status.BadSize n) = (n ≡ size) × IsOutside size
IsLoadEnd size had has status.NoMemory = Unit {0}
IsLoadEnd size had has s = ⊥

-- the status of a format that failed
abbrev pub init_status : InitFault → Status
init_status fault.ImageFault = status.ImageFault
init_status fault.NoMemory = status.NoMemory
init_status fault.BadCluster = status.BadInit fault.BadCluster
init_status fault.BadFiles = status.BadInit fault.BadFiles
init_status fault.BadLabel = status.BadInit fault.BadLabel
init_status fault.TooSmall = status.BadInit fault.TooSmall

-- why an image was not formatted
abbrev pub IsInitEnd : ℕ → ℕ → List ℕ → ℕ → ℕ → ℕ → Status → Type 0
IsInitEnd cluster files label size had has status.ImageFault = Rose had has
IsInitEnd cluster files label size had has (status.BadSize n) = (n ≡ size) × IsOutside size
IsInitEnd cluster files label size had has (status.BadInit f) = IsInside size × (refusal (sized cluster files size) label ≡ Some f)
IsInitEnd cluster files label size had has status.NoMemory = Unit {0}
IsInitEnd cluster files label size had has s = ⊥

-- an image is formatted, and this text says so
pub record IsFormattedWith (cluster files : ℕ) (label : List ℕ) (size : ℕ) (old new : List Block) (text : List ℕ) : Type 0 where
  pub possible : IsPossible cluster files label size
  pub made : IsMade (home_of cluster files label) old new
  pub told : text ≡ made_text label (sized cluster files size)

-- the status of a mending that failed
abbrev pub rebuild_status : RebuildFault → Status
rebuild_status (rebuild.NotMendable f) = status.NotMendable f
rebuild_status rebuild.ImageFault = status.ImageFault
rebuild_status rebuild.NoMemory = status.NoMemory

-- an image is mended, and this text says what was done
pub record IsRebuiltWith (size : ℕ) (old new : List Block) (text : List ℕ) : Type 0 where
  pub mendable : IsMendable size old
  pub told : IsMendingText old new text

-- why an image was not mended, and what it has then
abbrev pub IsRebuildEnd : ℕ → List Block → List Block → ℕ → ℕ → Status → Type 0
IsRebuildEnd size old new had has status.ImageFault = Rose had has × IsStillToMend old new
IsRebuildEnd size old new had has (status.BadSize n) = ((n ≡ size) × IsOutside size) × (new ≡ old)
IsRebuildEnd size old new had has (status.NotMendable f) = (IsInside size × IsFirstFatal old f) × (new ≡ old)
IsRebuildEnd size old new had has status.NoMemory = IsStillToMend old new
IsRebuildEnd size old new had has s = ⊥

-- an image has a volume with such records, and this is their text
pub record IsRecordsOn (n seq size : ℕ) (bs : List Block) (text : List ℕ) : Type 0 where
  pub accepted : IsAccepted size bs
  pub printed : IsRecordsText n seq bs text

-- why a stream gave no text of records
abbrev pub IsStreamEnd : List ℕ → Status → Type 0
IsStreamEnd stream (status.BadRecord at) = IsBadAt at (records_of stream)
IsStreamEnd stream status.NoMemory = Unit {0}
IsStreamEnd stream s = ⊥

-- why there is no stream
abbrev pub IsNoStream : ℕ → ℕ → List Block → Status → Type 0
IsNoStream n seq bs status.NoFile = stream_at bs n seq ≡ None
IsNoStream n seq bs status.NoMemory = Unit {0}
IsNoStream n seq bs s = ⊥

-- why blocks are not accepted
abbrev pub IsJudgedEnd : List Block → Status → Type 0
IsJudgedEnd bs (status.NotAccepted f) = IsFirstFound bs f
IsJudgedEnd bs status.NoMemory = Unit {0}
IsJudgedEnd bs s = ⊥

-- why the blocks of a volume gave no text of records
abbrev pub IsRecordsEndIn : ℕ → ℕ → List Block → Status → Type 0
IsRecordsEndIn n seq bs (status.NotAccepted f) = IsFirstFound bs f
IsRecordsEndIn n seq bs status.NoFile = Accepts bs × (stream_at bs n seq ≡ None)
IsRecordsEndIn n seq bs (status.BadRecord at) = Accepts bs × HasBadRecord n seq bs at
IsRecordsEndIn n seq bs status.NoMemory = Unit {0}
IsRecordsEndIn n seq bs s = ⊥

-- why an image gave none
abbrev pub IsRecordsEnd : ℕ → ℕ → ℕ → List Block → ℕ → ℕ → Status → Type 0
IsRecordsEnd n seq size bs had has status.ImageFault = Rose had has
IsRecordsEnd n seq size bs had has (status.BadSize k) = (k ≡ size) × IsOutside size
IsRecordsEnd n seq size bs had has (status.NotAccepted f) = IsInside size × IsFirstFound bs f
IsRecordsEnd n seq size bs had has status.NoFile = IsAccepted size bs × (stream_at bs n seq ≡ None)
IsRecordsEnd n seq size bs had has (status.BadRecord at) = IsAccepted size bs × HasBadRecord n seq bs at
IsRecordsEnd n seq size bs had has status.NoMemory = Unit {0}
IsRecordsEnd n seq size bs had has s = ⊥
