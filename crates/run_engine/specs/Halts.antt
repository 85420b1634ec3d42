-- How a run is told whose drive is mended then.
use Rattle.std.specs.Prelude.{◌≡◌, ◌++◌, ℕ, List, [], ◌∷◌, Option, ◌⊎◌}
use Rattle.base_words.specs.Fields.{Block}
use Rattle.plain_cat.specs.declared.history.Entry.{Entry}
use Rattle.plain_cat.specs.declared.history.Entry.TheVariants as entry
use Rattle.plain_cat.specs.declared.history.Mended.{Mended}
use Rattle.vol_parts.specs.declared.finding.Finding.{Finding}
use Rattle.run_engine.specs.Mending.{IsMended}
use Rattle.run_engine.specs.Mendings.{StillMends, IsRoomless}
use Rattle.run_engine.specs.Stops.{report_text}
use Rattle.run_engine.specs.Texts.{status_text, cut_text, unmended_text}
use Rattle.fx_text.specs.Written.{IsWritten}
use Rattle.base_words.specs.Faults.{Rose}
use Rattle.plain_cat.specs.declared.cat.Cat.{Cat}
use Rattle.vol_rebuild.specs.declared.fault.RebuildFault.{RebuildFault}
use Rattle.vol_rebuild.specs.declared.fault.RebuildFault.TheVariants as rebuild
use Rattle.core_state.specs.Worlds.{Plain}
use Rattle.run_engine.specs.declared.status.Status.{Status}
use Rattle.run_engine.specs.declared.status.Status.TheVariants as status
use Rattle.run_engine.specs.declared.stop.Stop.{Stop}
use Rattle.run_engine.specs.declared.stop.Stop.TheVariants as stop
use Rattle.run_engine.specs.declared.over_mending.Halt.{Halt}
use Rattle.run_engine.specs.declared.over_mending.Halt.TheVariants as halt

-- a history, and behind it a mending
abbrev pub with_mending : List Entry → Mended → List Entry
with_mending h done = h ++ entry.Mended done ∷ []

-- why a run came to no end is why it is not mended
abbrev pub halt_of : Stop → Halt
halt_of (stop.Cut text) = halt.Cut text
halt_of stop.NoLines = halt.NoLines
halt_of (stop.By s) = halt.By s

-- how it is told that a drive is not mended, behind a run with this history
abbrev pub IsHaltOf : List Entry → RebuildFault → Halt → Type 0
IsHaltOf h rebuild.ImageFault (halt.Cut text) = text.items ≡ cut_text h
IsHaltOf h rebuild.ImageFault halt.NoLines = Unit {0}
IsHaltOf h rebuild.ImageFault (halt.Unmended text f) = ⊥
IsHaltOf h rebuild.ImageFault (halt.By s) = ⊥
IsHaltOf h (rebuild.NotMendable f) (halt.Cut text) = ⊥
IsHaltOf h (rebuild.NotMendable f) halt.NoLines = ⊥
IsHaltOf h (rebuild.NotMendable f) (halt.Unmended text g) = (text.items ≡ unmended_text h f) × (g ≡ f)
IsHaltOf h (rebuild.NotMendable f) (halt.By s) = s ≡ status.NoMemory
IsHaltOf h rebuild.NoMemory r = r ≡ halt.By status.NoMemory

-- the image has the mended volume, and this text is printed
pub record IsMendedBy (w : Plain) (c : Cat) (new : List Block) (text : List ℕ) : Type 0 where
  pub done : Mended
  pub mended : IsMended c new done
  pub written : text ≡ report_text (with_mending w.history done) mended.after

-- it has the drive of the world, which cannot be mended
pub record IsUnmendedBy (w : Plain) (c : Cat) (new : List Block) (f : Finding) (text : List ℕ) : Type 0 where
  pub image : new ≡ w.blocks
  pub roomless : IsRoomless c w.blocks f
  pub written : text ≡ unmended_text w.history f

-- Why the drive is not mended. The image has blocks that mend to the same as the drive of the world, or, if that cannot be mended, its drive.
abbrev pub IsHaltBy : Plain → Cat → List Block → ℕ → ℕ → Halt → Type 0
IsHaltBy w c new had has (halt.Cut text) = Rose had has × StillMends c w.blocks new × (text.items ≡ cut_text w.history)
IsHaltBy w c new had has halt.NoLines = Rose had has × StillMends c w.blocks new
IsHaltBy w c new had has (halt.Unmended text f) = IsUnmendedBy w c new f text.items
IsHaltBy w c new had has (halt.By s) = (s ≡ status.NoMemory) × StillMends c w.blocks new

-- the status of a run that is not mended, and the text that was written
abbrev pub IsToldHalt : Option (List ℕ) → Option (List ℕ) → ℕ → ℕ → Halt → Status → Type 0
IsToldHalt old new before now (halt.Cut text) r = (r ≡ status.ImageFault) × IsWritten old new before now text.items
IsToldHalt old new before now halt.NoLines r = (r ≡ status.NoMemory) × IsWritten old new before now (status_text status.NoMemory)
IsToldHalt old new before now (halt.Unmended text f) r = (r ≡ status.NotMendable f) × IsWritten old new before now text.items
IsToldHalt old new before now (halt.By s) r = ((r ≡ s) ⊎ (r ≡ status.NoMemory)) × IsWritten old new before now (status_text r)
