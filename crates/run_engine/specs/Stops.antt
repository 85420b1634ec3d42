-- Why a run came to no end, and its report.
use Rattle.std.specs.Prelude.{◌≡◌, ℕ, List}
use Rattle.plain_cat.specs.declared.history.Entry.{Entry}
use Rattle.plain_cat.specs.declared.cat.Cat.{Cat}
use Rattle.plain_rules.specs.Lookups.{free_clusters}
use Rattle.core_state.specs.Worlds.{Plain}
use Rattle.run_engine.specs.Reports.{report_bytes}
use Rattle.blk_drive.specs.declared.mirror.LoadFault.{LoadFault}
use Rattle.blk_drive.specs.declared.mirror.LoadFault.TheVariants as load
use Rattle.core_state.specs.declared.mounting.MountFault.{MountFault}
use Rattle.core_state.specs.declared.mounting.MountFault.TheVariants as mount
use Rattle.run_engine.specs.declared.fault.RunFault.{RunFault}
use Rattle.run_engine.specs.declared.fault.RunFault.TheVariants as run
use Rattle.run_engine.specs.declared.stop.Stop.{Stop}
use Rattle.run_engine.specs.declared.stop.Stop.TheVariants as stop
use Rattle.run_engine.specs.Texts.{cut_text}
use Rattle.run_engine.specs.declared.status.Status.{Status}
use Rattle.run_engine.specs.declared.status.Status.TheVariants as status

-- the report of a history that leads to a catalogue
abbrev pub report_text : List Entry → Cat → List ℕ
report_text h c = report_bytes h (free_clusters c)

-- how a run that stopped by a fault is told
abbrev pub IsStopOf : Plain → RunFault → Stop → Type 0
IsStopOf w run.ImageFault (stop.Cut text) = text.items ≡ cut_text w.history
IsStopOf w run.ImageFault stop.NoLines = Unit {0}
IsStopOf w run.ImageFault (stop.By s) = ⊥
IsStopOf w run.NoMemory r = r ≡ stop.By status.NoMemory

-- the status of a mount
abbrev pub mount_status : MountFault → Status
mount_status (mount.NotAccepted f) = status.NotAccepted f
mount_status mount.NoMemory = status.NoMemory

-- the status of a load
abbrev pub load_status : LoadFault → Status
load_status load.ImageFault = status.ImageFault
load_status (load.BadSize n) = status.BadSize n
load_status load.NoMemory = status.NoMemory
