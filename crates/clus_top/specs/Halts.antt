-- How the steps of a run end whose drive is mended then.
use Rattle.std.specs.Prelude.{◌≡◌, ◌⊎◌, ℕ, List}
use Rattle.base_words.specs.Fields.{Block}
use Rattle.base_words.specs.Faults.{Rose}
use Rattle.plain_cat.specs.declared.script.Script.{Script}
use Rattle.vol_parts.specs.declared.finding.Finding.{Finding}
use Rattle.run_engine.specs.declared.status.Status.TheVariants as status
use Rattle.run_engine.specs.Mendings.{StillMends}
use Rattle.run_engine.specs.Scripts.{IsScriptOf}
use Rattle.run_engine.specs.Halts.{IsMendedBy, IsUnmendedBy}
use Rattle.run_engine.specs.Texts.{IsGood, IsAccepted, cut_text}
use Rattle.clus_top.specs.declared.run_job.Printed.TheVariants as printed
use Rattle.run_engine.specs.declared.over_mending.Halt.{Halt}
use Rattle.run_engine.specs.declared.over_mending.Halt.TheVariants as halt
use Rattle.clus_top.specs.MendedRuns.{IsMendedReport, IsPartlyMended}
use Rattle.clus_top.specs.Images.{IsCutOf, IsCutShort, IsMendingCutShort, IsUnmendedText}
use Rattle.clus_top.specs.Ends.{IsEndIn, IsCutIn, IsCutShortIn, IsStopIn, IsImageEnd, IsRunEnd}

-- ---- on the blocks of a volume

-- a run of the script has come to its end there, and would have this report
pub record IsOverIn (script : Script) (bs : List Block) : Type 0 where
  pub before : List Block
  pub report : List ℕ
  pub run : IsEndIn printed.Report script bs before report

-- and its drive is mended, or in part, or cannot be
abbrev pub IsMendedIn : Script → List Block → List Block → List ℕ → Type 0
IsMendedIn script bs new text = (o : IsOverIn script bs) × IsMendedBy o.run.drive.world o.run.left.after new text

abbrev pub IsPartlyIn : Script → List Block → List Block → Type 0
IsPartlyIn script bs new = (o : IsOverIn script bs) × StillMends o.run.left.after o.run.drive.world.blocks new

abbrev pub IsMendingCutIn : Script → List Block → List Block → List ℕ → Type 0
IsMendingCutIn script bs new text = (p : IsPartlyIn script bs new) × (text ≡ cut_text p.0.run.drive.world.history)

abbrev pub IsUnmendedIn : Script → List Block → List Block → Finding → List ℕ → Type 0
IsUnmendedIn script bs new f text = (o : IsOverIn script bs) × IsUnmendedBy o.run.drive.world o.run.left.after new f text

-- why a script came to no mended end there
abbrev pub IsHaltIn : Script → List Block → List Block → ℕ → ℕ → Halt → Type 0
IsHaltIn script bs new had has (halt.Cut text) = Rose had has × (IsCutShortIn script bs new text.items ⊎ IsMendingCutIn script bs new text.items)
IsHaltIn script bs new had has halt.NoLines = Rose had has × (IsCutIn script bs new ⊎ IsPartlyIn script bs new)
IsHaltIn script bs new had has (halt.Unmended text f) = IsUnmendedIn script bs new f text.items
IsHaltIn script bs new had has (halt.By s) = IsStopIn script bs new s ⊎ ((s ≡ status.NoMemory) × IsPartlyIn script bs new)

-- ---- on an image

abbrev pub IsImageHalt : Script → ℕ → List Block → List Block → ℕ → ℕ → ℕ → ℕ → Halt → Type 0
IsImageHalt script size old new had has lost losing (halt.Cut text) = Rose had has × (IsCutShortIn script old new text.items ⊎ IsMendingCutIn script old new text.items)
IsImageHalt script size old new had has lost losing halt.NoLines = Rose had has × (IsCutIn script old new ⊎ IsPartlyIn script old new)
IsImageHalt script size old new had has lost losing (halt.Unmended text f) = IsAccepted size old × IsUnmendedIn script old new f text.items
IsImageHalt script size old new had has lost losing (halt.By s) = IsImageEnd script size old new had has lost losing s ⊎ ((s ≡ status.NoMemory) × IsPartlyIn script old new)

-- ---- of the script that is read

-- a run of the script that these bytes spell is mended, and this is its report
pub record IsMendedWith (bytes : List ℕ) (size : ℕ) (old new : List Block) (text : List ℕ) : Type 0 where
  pub good : IsGood bytes
  pub accepted : IsAccepted size old
  pub report : IsMendedReport (IsScriptOf bytes) old new text

-- Why a run has no report with a mending: of the script, of the load, of the blocks, or of the mending; and what the image has then.
abbrev pub IsRunHalt : List ℕ → ℕ → List Block → List Block → ℕ → ℕ → ℕ → ℕ → ℕ → ℕ → Halt → Type 0
IsRunHalt bytes size old new read reading had has lost losing (halt.Cut text) =
    IsGood bytes × Rose had has × (IsCutShort (IsScriptOf bytes) old new text.items ⊎ IsMendingCutShort (IsScriptOf bytes) old new text.items)
IsRunHalt bytes size old new read reading had has lost losing halt.NoLines =
    IsGood bytes × Rose had has × (IsCutOf (IsScriptOf bytes) old new ⊎ IsPartlyMended (IsScriptOf bytes) old new)
IsRunHalt bytes size old new read reading had has lost losing (halt.Unmended text f) =
    IsGood bytes × IsAccepted size old × IsUnmendedText (IsScriptOf bytes) old new f text.items
IsRunHalt bytes size old new read reading had has lost losing (halt.By s) =
    IsRunEnd bytes size old new read reading had has lost losing s ⊎ ((s ≡ status.NoMemory) × IsPartlyMended (IsScriptOf bytes) old new)
