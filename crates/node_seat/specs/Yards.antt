-- What a yard and its seats keep.
use Rattle.std.specs.Prelude.{◌≡◌, ℕ, Bool, true, false, List, Option, Some, None}
use mathlib.Core.Option.{some}
use lib.ListN.{get_elem?}
use Rattle.base_words.specs.Fields.{Block}
use Rattle.core_state.specs.Worlds.{Plain}
use Rattle.node_seat.specs.declared.parked.Parked.{Parked}
use Rattle.node_seat.specs.declared.views.Start.{Start}
use Rattle.node_seat.specs.declared.views.SeatView.{SeatView}
use Rattle.node_seat.specs.Keeping.{IsKept}

-- of a world with its mark, by what it tells of itself
abbrev pub IsKeptBy : {W : Type 0} → (W → Plain) → (W → ℕ) → (W → Option (List Block)) → Start → Parked W → Type 0
IsKeptBy world faults told start p = IsKept start (world p.world) (faults p.world) (told p.world) p.stopped

-- the slot has a world that is kept
abbrev pub Kept : {W : Type 0} → (W → Plain) → (W → ℕ) → (W → Option (List Block)) → Start → Option (Parked W) → Type 0
Kept world faults told start None = ⊥
Kept world faults told start (Some p) = IsKeptBy world faults told start p

-- a seat of this number that has not the turn, with so many claims behind it
abbrev pub resting : ℕ → ℕ → Start → SeatView
resting number claims start = record { number = number; turn = false; unopened = false; claims = claims; splitting = false; start = start }

-- the view with which a yard begins: that of its own seat, which has the turn
abbrev pub beginning : Start → SeatView
beginning start = record { number = 9; turn = true; unopened = true; claims = 0; splitting = false; start = start }

-- while the first mark says that nothing was done, the perch is empty
abbrev pub IsFreshFirst : ℕ → List Bool → Type 0
IsFreshFirst n views = (i : ℕ) → get_elem? views i ≡ some true → (i ≡ 0) × (n ≡ 0)
