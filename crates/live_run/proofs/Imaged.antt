-- A script on an image: why the blocks gave no end is why the image gave none.
use Rattle.std.proofs.Common.{◌≡◌, ◌≤◌, ℕ, List, refl, subst, inl}
use Rattle.base_words.specs.Fields.{Block}
use Rattle.blk_drive.specs.Images.{IsInside, IsOutside}
use Rattle.blk_drive.specs.Loads.{HasLoadCause}
use Rattle.blk_drive.specs.declared.mirror.LoadFault.{LoadFault}
use Rattle.blk_drive.specs.declared.mirror.LoadFault.TheVariants as load
use Rattle.plain_cat.specs.declared.script.Script.{Script}
use Rattle.vol_parts.specs.Findings.{Accepts}
use Rattle.run_engine.specs.declared.status.Status.{Status}
use Rattle.run_engine.specs.declared.status.Status.TheVariants as status
use Rattle.run_engine.specs.declared.over_mending.Halt.{Halt}
use Rattle.run_engine.specs.declared.over_mending.Halt.TheVariants as halt
use Rattle.run_engine.specs.Stops.{load_status}
use Rattle.run_engine.proofs.Given.{rose_later}
use Rattle.live_run.specs.declared.words.Job.{Job}
use Rattle.live_run.specs.declared.words.Job.TheVariants as job
use Rattle.live_run.specs.Lives.{IsEnd}
use Rattle.live_run.specs.Ends.{IsQuiet, IsHalt}
use Rattle.live_run.specs.Statuses.{IsImageEnd, IsImageHalt}

pub accepts : (what : Job) (script : Script) (bs new : List Block) (text : List ℕ) → IsEnd what script bs new text → Accepts bs
accepts job.Live script bs new text h = h.live.accepted
accepts job.LiveRebuild script bs new text h = h.over.end.live.accepted

module _ (what : Job) (script : Script) (size : ℕ) (old new : List Block) where
  quiet_on : (first has lost losing : ℕ) (s : Status) → IsInside size → IsQuiet what script old new s → IsImageEnd what script size old new first has lost losing s
  quiet_on first has lost losing (status.NotAccepted f) inside end = ((inside, end.0), end.1)
  quiet_on first has lost losing status.NoMemory inside end = end
  quiet_on first has lost losing s inside end = absurd end

  pub halt_on : (first had has lost losing : ℕ) (x : Halt) → IsInside size → first ≤ had → IsHalt what script old new had has x → IsImageHalt what script size old new first has lost losing x
  halt_on first had has lost losing (halt.Cut text) inside later end = (rose_later first had has later end.0, end.1)
  halt_on first had has lost losing halt.NoLines inside later end = (rose_later first had has later end.0, end.1)
  halt_on first had has lost losing (halt.Unmended text f) inside later end = (record { inside = inside; accepted = end.0 }, end.1)
  halt_on first had has lost losing (halt.By s) inside later end = quiet_on first has lost losing s inside end

-- why an image was not loaded: no write was lost
pub load_end : (what : Job) (script : Script) (size : ℕ) (bs : List Block) (had has lost losing : ℕ) (f : LoadFault) → losing ≡ lost → HasLoadCause size had has f
    → IsImageEnd what script size bs bs had has lost losing (load_status f)
load_end what script size bs had has lost losing load.ImageFault kept cause = (cause, refl, kept)
load_end what script size bs had has lost losing (load.BadSize n) kept cause = ((cause.0, subst IsOutside cause.0 cause.1), refl)
load_end what script size bs had has lost losing load.NoMemory kept cause = inl refl
