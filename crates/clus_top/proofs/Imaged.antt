-- A run of a script on an image: why the blocks gave no end is why the image gave none.
use Rattle.std.proofs.Common.{◌≡◌, ◌≤◌, ℕ, List, refl, subst, inl}
use Rattle.base_words.specs.Fields.{Block}
use Rattle.blk_drive.specs.Images.{IsInside, IsOutside}
use Rattle.blk_drive.specs.Loads.{HasLoadCause}
use Rattle.blk_drive.specs.declared.mirror.LoadFault.{LoadFault}
use Rattle.blk_drive.specs.declared.mirror.LoadFault.TheVariants as load
use Rattle.plain_cat.specs.declared.script.Script.{Script}
use Rattle.run_engine.specs.declared.status.Status.{Status}
use Rattle.run_engine.specs.declared.status.Status.TheVariants as status
use Rattle.run_engine.specs.declared.stop.Stop.{Stop}
use Rattle.run_engine.specs.declared.stop.Stop.TheVariants as stop
use Rattle.run_engine.specs.Stops.{load_status}
use Rattle.run_engine.proofs.Given.{rose_later}
use Rattle.clus_top.specs.Ends.{IsStopIn, IsStopBy, IsImageEnd, IsImageStop}

module _ (script : Script) (size : ℕ) (old new : List Block) where
  pub quiet_on : (first has lost losing : ℕ) (s : Status) → IsInside size → IsStopIn script old new s → IsImageEnd script size old new first has lost losing s
  quiet_on first has lost losing (status.NotAccepted f) inside end = ((inside, end.0), end.1)
  quiet_on first has lost losing status.NoMemory inside end = end
  quiet_on first has lost losing s inside end = absurd end

  pub stop_on : (first had has lost losing : ℕ) (s : Stop) → IsInside size → first ≤ had → IsStopBy script old new had has s → IsImageStop script size old new first has lost losing s
  stop_on first had has lost losing (stop.Cut text) inside later end = (rose_later first had has later end.0, end.1)
  stop_on first had has lost losing stop.NoLines inside later end = (rose_later first had has later end.0, end.1)
  stop_on first had has lost losing (stop.By s) inside later end = quiet_on first has lost losing s inside end

-- why an image was not loaded: no write was lost
pub load_end : (script : Script) (size : ℕ) (bs : List Block) (had has lost losing : ℕ) (f : LoadFault) → losing ≡ lost → HasLoadCause size had has f → IsImageEnd script size bs bs had has lost losing (load_status f)
load_end script size bs had has lost losing load.ImageFault kept cause = (cause, refl, kept)
load_end script size bs had has lost losing (load.BadSize n) kept cause = ((cause.0, subst IsOutside cause.0 cause.1), refl)
load_end script size bs had has lost losing load.NoMemory kept cause = inl refl
