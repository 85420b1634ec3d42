-- The rule of the turn word, and what each kind of step tells its seat.
use Rattle.std.specs.Prelude.{◌≡◌, ◌≢◌, ◌≤◌, ◌+◌, ◌⊎◌, ℕ, true, false, List, [], ◌∷◌, Option, None}
use mathlib.Core.Option.{Option as Maybe, some}
use lib.ListN.{get_elem?}
use Rattle.atomic_table.specs.Table.{State, Me, Step}
use Rattle.node_seat.specs.declared.views.Start.{Start}
use Rattle.node_seat.specs.declared.views.SeatView.{SeatView}

-- seat i has this view
abbrev pub Has : List SeatView → ℕ → SeatView → Type 0
Has views i v = get_elem? views i ≡ some v

-- The rule. Word 0 is the number of the seat whose turn it is, or 0; word 1 counts the claimed nodes; the slot is at home with a
-- value, or out with a seat.
pub record IsTurned {S : Type 0} (kept : Start → Option S → Type 0) (turn claims : ℕ) (home : Maybe (Option S)) (views : List SeatView) : Type 0 where
  -- all views have one start
  pub alike : (i j : ℕ) (v w : SeatView) → Has views i v → Has views j w → v.start ≡ w.start
  -- a number stands in one view alone, and is 9 or that of a claimed node
  pub own_number : (i j : ℕ) (v w : SeatView) → Has views i v → Has views j w → v.number ≡ w.number → i ≡ j
  pub in_range : (i : ℕ) (v : SeatView) → Has views i v → (v.number ≡ 9) ⊎ ((1 ≤ v.number) × (v.number ≤ claims))
  -- at most 8 nodes are claimed, and number 9 knows how many
  pub few : claims ≤ 8
  pub claimed : (i : ℕ) (v : SeatView) → Has views i v → v.number ≡ 9 → v.claims ≡ claims
  -- if it has a seat still to split off, that is for the last claim, which stands in no view
  pub unsplit : (i : ℕ) (v : SeatView) → Has views i v → v.splitting ≡ true → (v.number ≡ 9) × (1 ≤ claims) × ((j : ℕ) (w : SeatView) → Has views j w → w.number ≢ claims)
  -- who has the turn stands in word 0
  pub holder : (i : ℕ) (v : SeatView) → Has views i v → v.turn ≡ true → turn ≡ v.number
  -- if it is nobody's turn, the slot is at home with a world that is kept
  pub at_home : turn ≡ 0 → (i : ℕ) (v : SeatView) → Has views i v → (x : Option S) × (home ≡ some x) × kept v.start x
  -- if the yard is still to be opened, it is the turn of number 9, and the slot is at home and empty
  pub unopened : (i : ℕ) (v : SeatView) → Has views i v → v.unopened ≡ true → (v.number ≡ 9) × (v.turn ≡ true) × (home ≡ some None)

abbrev pub Holds : {S : Type 0} → (Start → Option S → Type 0) → State (Option S) SeatView → Type 0
Holds {S} kept s = (turn claims : ℕ) × (home : Maybe (Option S)) × (s.words ≡ turn ∷ claims ∷ []) × (s.homes ≡ home ∷ []) × IsTurned kept turn claims home s.views

-- ---- what changes in a view

abbrev pub with_turn : SeatView → SeatView
with_turn v = record v { turn = true }

abbrev pub without_turn : SeatView → SeatView
without_turn v = record v { turn = false }

abbrev pub opened : SeatView → SeatView
opened v = record v { unopened = false }

abbrev pub claimed_by : SeatView → SeatView
claimed_by v = record v { claims = v.claims + 1; splitting = true }

-- the yard's own view once the seat of the last claim is split off
abbrev pub stays : SeatView → SeatView
stays v = record v { splitting = false }

-- the view of the seat that is split off
abbrev pub comes : SeatView → SeatView
comes v = record { number = v.claims; turn = false; unopened = false; claims = 0; splitting = false; start = v.start }

-- ---- what a step tells its seat: `me` is its view and what it has in hand, before the step

-- the turn was free and is taken, with the slot, in which is what is kept; or it was not, and nothing changed
abbrev pub Takes : {S : Type 0} → (Start → Option S → Type 0) → Step (Option S) → Me (Option S) SeatView → ℕ → Me (Option S) SeatView → Type 0
Takes {S} kept s me found after =
    ((found ≡ 0) × (after.0 ≡ with_turn me.0) × ((x : Option S) × (after.1 ≡ (0, x) ∷ []) × kept me.0.start x))
    ⊎ ((found ≢ 0) × (after ≡ me))

-- the turn is given, and the slot goes home
abbrev pub Gives : {S : Type 0} → Step (Option S) → Me (Option S) SeatView → ℕ → Me (Option S) SeatView → Type 0
Gives s me found after = (after.0 ≡ without_turn me.0) × (after.1 ≡ [])

-- the slot goes out, empty, and the yard is opened
abbrev pub Opens : {S : Type 0} → Step (Option S) → Me (Option S) SeatView → ℕ → Me (Option S) SeatView → Type 0
Opens s me found after = (after.0 ≡ opened me.0) × (after.1 ≡ (0, None) ∷ [])

-- one more node is claimed, whose seat is still to be split off
abbrev pub Claims : {S : Type 0} → Step (Option S) → Me (Option S) SeatView → ℕ → Me (Option S) SeatView → Type 0
Claims s me found after = (after.0 ≡ claimed_by me.0) × (after.1 ≡ me.1)
