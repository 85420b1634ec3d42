-- What the image has after a job.
use Rattle.std.specs.Prelude.{◌≡◌, ◌⊎◌, ℕ, List, Option, Some, None}
use Rattle.base_words.specs.Fields.{Block}
use Rattle.base_words.specs.Faults.{Rose}
use Rattle.fx_home.specs.declared.home.Home.{Home}
use Rattle.vol_init.specs.Refusals.{home_of}
use Rattle.vol_init.specs.Made.{IsMade, IsLeft}
use Rattle.run_engine.specs.declared.status.Status.{Status}
use Rattle.run_engine.specs.declared.status.Status.TheVariants as status
use Rattle.plain_cat.specs.declared.script.Script.{Script}
use Rattle.core_state.specs.Worlds.{Plain}
use Rattle.run_engine.specs.Walks.{IsNextIn, IsBeforeWrite}
use Rattle.core_state.specs.Ends.{AllOver}
use Rattle.run_engine.specs.Scripts.{IsScriptOf}
use Rattle.run_engine.specs.Texts.{status_text, cut_text, unmended_text, IsPlainText}
use Rattle.run_engine.specs.Torn.{IsTornRun}
use Rattle.clus_top.specs.Words.{Wanted, Run, RunRebuild, Soak, Analyze, Rebuild, Repair, Records, Store, Init}
use Rattle.clus_top.specs.Runs.{IsSoakOf, HasRun, LacksMemory}
use Rattle.vol_parts.specs.declared.finding.Finding.{Finding}
use Rattle.clus_top.specs.Mendings.{IsMendedImage, IsStillToMend}
use Rattle.clus_top.specs.MendedRuns.{HasRunAndMended, IsPartlyMended, IsUnmended}
use Rattle.clus_top.specs.Repairs.{IsRepairImage}
use Rattle.clus_top.specs.Stores.{IsStoreImage}
use Rattle.run_script.specs.Lines.{lines_of}

-- After a format: the new volume; after a fault or want of memory the old blocks, or no home block that is read, or the new
-- volume; and after a refusal the old blocks.
abbrev pub IsFormatted : Home → List Block → List Block → Status → Type 0
IsFormatted h old new status.Ok = IsMade h old new
IsFormatted h old new status.OutFault = IsMade h old new
IsFormatted h old new status.ImageFault = IsLeft h old (Some new)
IsFormatted h old new status.NoMemory = IsLeft h old (Some new)
IsFormatted h old new s = new ≡ old

-- The image has the drive of a world that has run the script of its job on the volume of these blocks, as far as its nodes came.
pub record IsDriveOf (IsGiven : Script → Type 0) (bs new : List Block) : Type 0 where
  pub script : Script
  pub given : IsGiven script
  pub world : Plain
  pub ran : HasRun script bs world
  pub image : new ≡ world.blocks

-- and every node is over
abbrev pub IsLastDriveOf : (Script → Type 0) → List Block → List Block → Type 0
IsLastDriveOf IsGiven bs new = (d : IsDriveOf IsGiven bs new) × AllOver d.world

-- and it may lack memory there
abbrev pub IsLackingDriveOf : (Script → Type 0) → List Block → List Block → Type 0
IsLackingDriveOf IsGiven bs new = (d : IsDriveOf IsGiven bs new) × LacksMemory d.ran.start d.script.plays d.world

-- A world has run the script of its job on the volume of these blocks as far as to a write of the node whose turn it is. The image
-- has the drive of this world, or that which this one turn would have left: one block may be ahead, and no other differs. Whichever it
-- is, the image mends as the catalogue that the run leaves as it stops, with that write done if it landed.
pub record IsCutOf (IsGiven : Script → Type 0) (bs new : List Block) : Type 0 where
  pub script : Script
  pub given : IsGiven script
  pub world : Plain
  pub ran : HasRun script bs world
  pub before : IsBeforeWrite (IsNextIn ran.start script.plays world) bs (Some bs) (Some new) world
  pub torn : IsTornRun ran.start script.plays world before.node (Some new)

-- After a run: the drive of its world, once every node is over; after a fault of the image the old blocks, or the drive as far as the run
-- came but for the block of a write that failed; after want of memory the old blocks, or the drive as far as to where the run lacked it, or,
-- only if the count of failed calls rose from `had` to `has`, what a write that failed left, if the lines of the answers before it found no
-- memory; and else the old blocks.
abbrev pub IsRunImage : (Script → Type 0) → ℕ → ℕ → List Block → List Block → Status → Type 0
IsRunImage IsGiven had has old new status.Ok = IsLastDriveOf IsGiven old new
IsRunImage IsGiven had has old new status.OutFault = IsLastDriveOf IsGiven old new
IsRunImage IsGiven had has old new status.NoMemory = (new ≡ old) ⊎ (IsLackingDriveOf IsGiven old new ⊎ (Rose had has × IsCutOf IsGiven old new))
IsRunImage IsGiven had has old new status.ImageFault = (new ≡ old) ⊎ IsCutOf IsGiven old new
IsRunImage IsGiven had has old new s = new ≡ old

-- After a run that is mended then: the mended volume; where it cannot be mended the drive of the run; after want of memory or a fault of
-- the image also the drive of the run as far as the mending came, of which one block may be ahead, and which mends to the same.
abbrev pub IsRunRebuildImage : (Script → Type 0) → ℕ → ℕ → List Block → List Block → Status → Type 0
IsRunRebuildImage IsGiven had has old new status.Ok = HasRunAndMended IsGiven old new
IsRunRebuildImage IsGiven had has old new status.OutFault = HasRunAndMended IsGiven old new
IsRunRebuildImage IsGiven had has old new (status.NotMendable f) = IsUnmended IsGiven old new f
IsRunRebuildImage IsGiven had has old new status.NoMemory = (new ≡ old) ⊎ (IsLackingDriveOf IsGiven old new ⊎ ((Rose had has × IsCutOf IsGiven old new) ⊎ IsPartlyMended IsGiven old new))
IsRunRebuildImage IsGiven had has old new status.ImageFault = (new ≡ old) ⊎ (IsCutOf IsGiven old new ⊎ IsPartlyMended IsGiven old new)
IsRunRebuildImage IsGiven had has old new s = new ≡ old

-- After a mending: the mended volume; after a fault or want of memory blocks that mend to the same as the old ones, and the old ones
-- where they have a fatal finding; and else the old blocks.
abbrev pub IsRebuildImage : List Block → List Block → Status → Type 0
IsRebuildImage old new status.Ok = IsMendedImage old new
IsRebuildImage old new status.OutFault = IsMendedImage old new
IsRebuildImage old new status.ImageFault = IsStillToMend old new
IsRebuildImage old new status.NoMemory = IsStillToMend old new
IsRebuildImage old new s = new ≡ old

-- ---- what is told of a fault of the image

-- a run that a write cut short, with the lines of the answers before it
pub record IsCutShort (IsGiven : Script → Type 0) (bs new : List Block) (text : List ℕ) : Type 0 where
  pub cut : IsCutOf IsGiven bs new
  pub written : text ≡ cut_text cut.world.history

-- a run has come to its end, and a write of its mending failed: with the lines of its history
pub record IsMendingCutShort (IsGiven : Script → Type 0) (bs new : List Block) (text : List ℕ) : Type 0 where
  pub part : IsPartlyMended IsGiven bs new
  pub written : text ≡ cut_text part.ran.world.history

-- a run whose drive cannot be mended, with the lines of its history
pub record IsUnmendedText (IsGiven : Script → Type 0) (bs new : List Block) (f : Finding) (text : List ℕ) : Type 0 where
  pub unmended : IsUnmended IsGiven bs new f
  pub written : text ≡ unmended_text unmended.ran.world.history f

-- a call of the image failed that was no write: its blocks stay, no write is lost, and the text is that of the fault alone
abbrev pub IsLoadFaultText : ℕ → ℕ → List Block → List Block → List ℕ → Type 0
IsLoadFaultText lost losing old new text = (new ≡ old) × (losing ≡ lost) × (text ≡ status_text status.ImageFault)

-- The text of a fault of the image, whose count of lost writes was `lost` and is `losing`: of a run that a write cut short the lines of the
-- answers before it, and the text of the fault; and else that alone, only if no write was lost.
abbrev pub IsRunFaultText : (Script → Type 0) → ℕ → ℕ → List Block → List Block → Status → List ℕ → Type 0
IsRunFaultText IsGiven lost losing old new status.ImageFault text = IsLoadFaultText lost losing old new text ⊎ IsCutShort IsGiven old new text
IsRunFaultText IsGiven lost losing old new s text = IsPlainText s text

-- The same of a run that is mended then: a write of the mending may have failed too, and where it cannot be mended the lines of the
-- history come before the text.
abbrev pub IsMendedFaultText : (Script → Type 0) → ℕ → ℕ → List Block → List Block → Status → List ℕ → Type 0
IsMendedFaultText IsGiven lost losing old new status.ImageFault text =
    IsLoadFaultText lost losing old new text ⊎ (IsCutShort IsGiven old new text ⊎ IsMendingCutShort IsGiven old new text)
IsMendedFaultText IsGiven lost losing old new (status.NotMendable f) text = IsUnmendedText IsGiven old new f text
IsMendedFaultText IsGiven lost losing old new s text = IsPlainText s text

abbrev pub IsFaultTextOf : Option Wanted → List ℕ → ℕ → ℕ → List Block → List Block → Status → List ℕ → Type 0
IsFaultTextOf (Some Run) bytes lost losing old new s text = IsRunFaultText (IsScriptOf bytes) lost losing old new s text
IsFaultTextOf (Some RunRebuild) bytes lost losing old new s text = IsMendedFaultText (IsScriptOf bytes) lost losing old new s text
IsFaultTextOf (Some (Soak n)) bytes lost losing old new s text = IsRunFaultText (IsSoakOf n) lost losing old new s text
IsFaultTextOf (Some Analyze) bytes lost losing old new s text = IsPlainText s text
IsFaultTextOf (Some Rebuild) bytes lost losing old new s text = IsPlainText s text
IsFaultTextOf (Some Repair) bytes lost losing old new s text = IsPlainText s text
IsFaultTextOf (Some (Records n seq)) bytes lost losing old new s text = IsPlainText s text
IsFaultTextOf (Some (Store n seq)) bytes lost losing old new s text = IsPlainText s text
IsFaultTextOf (Some (Init cluster files label)) bytes lost losing old new s text = IsPlainText s text
IsFaultTextOf None bytes lost losing old new s text = IsPlainText s text

-- After a job: a run, a soak, a mending, a repair, a store and a format write to the image.
abbrev pub IsImageAfter : Option Wanted → List ℕ → ℕ → ℕ → List Block → List Block → Status → Type 0
IsImageAfter (Some (Init cluster files label)) bytes had has old new s = IsFormatted (home_of cluster files label) old new s
IsImageAfter (Some Run) bytes had has old new s = IsRunImage (IsScriptOf bytes) had has old new s
IsImageAfter (Some RunRebuild) bytes had has old new s = IsRunRebuildImage (IsScriptOf bytes) had has old new s
IsImageAfter (Some (Soak n)) bytes had has old new s = IsRunImage (IsSoakOf n) had has old new s
IsImageAfter (Some Analyze) bytes had has old new s = new ≡ old
IsImageAfter (Some Rebuild) bytes had has old new s = IsRebuildImage old new s
IsImageAfter (Some Repair) bytes had has old new s = IsRepairImage old new s
IsImageAfter (Some (Records n seq)) bytes had has old new s = new ≡ old
IsImageAfter (Some (Store n seq)) bytes had has old new s = IsStoreImage n seq (lines_of bytes) old new s
IsImageAfter None bytes had has old new s = new ≡ old
