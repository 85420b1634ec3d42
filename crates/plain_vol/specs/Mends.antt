-- What the program of mending says.
use Rattle.std.specs.Prelude.{◌≡◌, ℕ, Bool, true, false, List, Option, Some, None}
use Rattle.plain_cat.specs.declared.cat.Cat.{Cat}
use Rattle.plain_cat.specs.declared.entries.DirEnt.{DirEnt}
use Rattle.plain_cat.specs.declared.history.Mended.{Mended}
use Rattle.plain_vol.specs.declared.mending.Repair.{Repair}
use Rattle.plain_rules.specs.Mending.{enter, mended}
use Rattle.plain_vol.specs.Makings.{changed}

-- the catalogue in which [SYSLOST] has these entries
abbrev pub entered_as : Cat → Option (List DirEnt) → Option Cat
entered_as c None = None
entered_as c (Some es) = Some (changed c 11 (λ d. record d { entries = es }))

-- a lost file is entered, or there is no room and nothing changes
abbrev pub IsEntering : Cat → Cat → ℕ → Bool → Type 0
IsEntering old new n true = enter old n ≡ Some new
IsEntering old new n false = (enter old n ≡ None) × (new ≡ old)

abbrev pub counts_of : Repair → Mended
counts_of w = record { entered = w.entered; removed = w.removed; gone = w.gone; clusters = w.clusters; numbers = w.numbers }

-- the catalogue after mending with its counts, or none
abbrev pub MendsTo : Cat → Option Repair → Type 0
MendsTo c None = mended c ≡ None
MendsTo c (Some w) = mended c ≡ Some (w.after, counts_of w)
