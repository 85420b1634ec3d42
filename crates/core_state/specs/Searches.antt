-- How a node stands by its rules for space.
use Rattle.std.specs.Prelude.{◌≡◌, ◌⊎◌, ◌<◌, ◌≤◌, ◌++◌, ℕ, true, false, Bool, List, [], ◌∷◌, Option, None, Some, is_some, length, map, drop}
use Rattle.lock_db.specs.declared.name.LockName.{LockName}
use Rattle.lock_db.specs.declared.name.LockName.TheVariants.{S, Q, X, V}
use Rattle.plain_cat.specs.declared.mode.Mode.{Mode}
use Rattle.plain_cat.specs.declared.mode.Mode.TheVariants.{NL, CR, PW, EX}
use Rattle.plain_cat.specs.declared.command.Cmd.{Cmd}
use Rattle.plain_cat.specs.declared.reply.Refusal.{Refusal}
use Rattle.node_locks.specs.Held.{Row}
use Rattle.base_words.specs.Lists.{Has, Once, Touches}
use Rattle.vol_parts.specs.declared.geometry.Geometry.{Geometry}
use Rattle.vol_under.specs.Keeping.{IsBitmap}
use Rattle.op_law.specs.declared.need.Need.TheVariants as need
use Rattle.op_law.specs.declared.need.PlanWrite.{PlanWrite}
use Rattle.op_law.specs.declared.seen.Seen.{Seen}
use Rattle.op_law.specs.Events.{space_of, has_space, HasNoSpace}
use Rattle.op_law.specs.Needs.{IsNext}
use Rattle.op_law.specs.Knows.{wanted, takes_space, is_new_number}
use Rattle.op_law.specs.Laws.{held_in}
use Rattle.extent_cache.specs.Takings.{holds_enough}
use Rattle.core_space.specs.Searching.{Found, More, Short, Enough, found}
use Rattle.core_space.specs.Taking.{looked, out_after}
use Rattle.core_space.specs.Answering.{blocks_alone}
use Rattle.core_space.specs.declared.run.Phase.{Phase}
use Rattle.core_space.specs.declared.run.Phase.TheVariants as phase
use Rattle.core_space.specs.declared.run.SpaceRun.{SpaceRun}
use Rattle.core_space.specs.Filling.{clusters_to_take, lacks_number, fill_place, filled}
use Rattle.core_space.specs.Giving.{give_place, give_writes}
use Rattle.core_space.specs.Rule.{no_run}
use Rattle.core_state.specs.Worlds.{Stock, empty_stock}
use Rattle.core_state.specs.Stocks.{roomless}

-- a rule goes on in this phase, and has looked at nothing and written nothing
abbrev pub begun_run : Phase → SpaceRun
begun_run p = record { phase = p; looked = []; writes = []; made = 0; ready = [] }

-- ---- what the command wants

-- the clusters that a command with this seen wants, and whether it wants a number
abbrev pub wanted_by : Cmd → Seen → ℕ
wanted_by x seen = (wanted seen x).clusters

abbrev pub numbered_by : Cmd → Seen → Bool
numbered_by x seen = (wanted seen x).number

-- the lock of the file of this number
abbrev pub IsOfNumber : Option ℕ → LockName → Type 0
IsOfNumber number (S n) = number ≡ Some n
IsOfNumber number other = ⊥

-- A command has come to its rules for space: it has looked at a block, it holds Q in PW, and behind the locks that it held then comes none but that of the file
-- whose number it was given.
pub record HasCome (x : Cmd) (seen : Seen) : Type 0 where
  pub takes : takes_space x ≡ true
  pub before : Row
  pub after : Row
  pub locks : seen.locks ≡ before ++ after
  pub blocks : 0 < length seen.blocks
  pub quota : Has (held_in PW before) Q
  pub behind : (l : LockName × Mode) → Has after l → IsOfNumber seen.number l.0

-- it needs what it wants, was given nothing yet, and has looked at no bitmap itself
pub record NeedsSpace (x : Cmd) (seen : Seen) : Type 0 where
  pub come : HasCome x seen
  pub next : IsNext x seen (need.Space (wanted_by x seen) (numbered_by x seen))
  pub none : HasNoSpace (space_of seen)
  pub apart : (l : ℕ) → Touches seen.blocks l → IsBitmap seen.geometry l → ⊥

-- a stock holds what it wants
abbrev pub is_enough : Cmd → Seen → Stock → Bool
is_enough x seen stock = holds_enough (wanted_by x seen) (numbered_by x seen) (roomless stock)

-- ---- without a lock of free space

-- no rule is begun, and nothing was given
pub record IsOff (claimed : Row) (rules : SpaceRun) (seen : Seen) : Type 0 where
  pub run : rules ≡ no_run
  pub claims : claimed ≡ []
  pub space : HasNoSpace (space_of seen)

-- the stock was filled, and is enough
pub record IsServed (x : Cmd) (claimed : Row) (rules : SpaceRun) (stock : Stock) (seen : Seen) : Type 0 where
  pub run : rules ≡ begun_run phase.Fill
  pub claims : claimed ≡ []
  pub needs : NeedsSpace x seen
  pub enough : is_enough x seen stock ≡ true

-- the command was given what it wants from the stock
pub record IsGiven (x : Cmd) (claimed : Row) (rules : SpaceRun) (seen : Seen) : Type 0 where
  pub run : rules ≡ begun_run phase.Fill
  pub claims : claimed ≡ []
  pub come : HasCome x seen
  pub has : has_space (wanted_by x seen) (numbered_by x seen) (space_of seen) ≡ true
  pub above : is_new_number seen.number ≡ true
  pub short : seen.short ≡ None

-- ---- filling

-- X is asked for in CR, as the stock is not enough
pub record AsksShared (x : Cmd) (claimed : Row) (rules : SpaceRun) (stock : Stock) (seen : Seen) : Type 0 where
  pub run : rules ≡ begun_run phase.Fill
  pub claims : claimed ≡ (X, CR) ∷ []
  pub needs : NeedsSpace x seen
  pub lacking : is_enough x seen stock ≡ false

-- V is asked for, under X in CR; and the blocks looked at are the first of those that the filling may look at
pub record IsFilling (x : Cmd) (kept claimed : Row) (run : SpaceRun) (lacks : Bool) (seen : Seen) : Type 0 where
  pub fill : run.phase ≡ phase.Fill
  pub shared : Has kept (X, CR)
  pub claims : claimed ≡ (V, PW) ∷ []
  pub needs : NeedsSpace x seen
  pub in_order : run.looked ≡ looked seen.geometry 1 lacks (blocks_alone run.looked)

-- whether the command lacks a number
abbrev pub lacks_by : Cmd → Seen → Stock → Bool
lacks_by x seen stock = lacks_number (numbered_by x seen) stock.numbers

-- one more block is to be looked at, as the stock is not enough
pub record FillLooks (x : Cmd) (kept claimed : Row) (run : SpaceRun) (stock : Stock) (seen : Seen) : Type 0 where
  pub filling : IsFilling x kept claimed run (lacks_by x seen stock) seen
  pub lacking : is_enough x seen stock ≡ false
  pub more : is_some (fill_place seen.geometry (clusters_to_take (wanted_by x seen) (length stock.clusters)) (lacks_by x seen stock) (blocks_alone run.looked)) ≡ true
  pub writes : run.writes ≡ []
  pub made : run.made ≡ 0

-- these writes fill the stock, and not all of them are made
pub record FillWrites (x : Cmd) (kept claimed : Row) (run : SpaceRun) (stock : Stock) (seen : Seen) : Type 0 where
  pub filling : IsFilling x kept claimed run (lacks_by x seen stock) seen
  pub enough : filled seen.geometry (wanted_by x seen) (length stock.clusters) (lacks_by x seen stock) (blocks_alone run.looked) ≡ Some run.writes
  pub part : run.made < length run.writes

-- each of these writes is under V
abbrev pub AreUnderV : List PlanWrite → Type 0
AreUnderV ws = (w : PlanWrite) → Has ws w → w.lock ≡ V

-- all are made, each under V, and the stock is enough
pub record HasFilled (x : Cmd) (kept claimed : Row) (run : SpaceRun) (stock : Stock) (seen : Seen) : Type 0 where
  pub fill : run.phase ≡ phase.Fill
  pub shared : Has kept (X, CR)
  pub claims : claimed ≡ (V, PW) ∷ []
  pub needs : NeedsSpace x seen
  pub all : run.made ≡ length run.writes
  pub locks : AreUnderV run.writes
  pub enough : is_enough x seen stock ≡ true

-- ---- giving back

-- the next block that a give-back of this stock looks at
abbrev pub next_back : Geometry → Stock → SpaceRun → Option ℕ
next_back g stock run = give_place g stock.clusters stock.numbers run.looked

-- What is left to be written makes all of the stock free, and what it writes was looked at; no two writes are to the same block, and
-- each is under V.
pub record IsWritingBack (g : Geometry) (stock : Stock) (run : SpaceRun) : Type 0 where
  pub rest : drop run.made run.writes ≡ give_writes g stock.clusters stock.numbers run.looked
  pub within : run.made ≤ length run.writes
  pub all : next_back g stock run ≡ None
  pub once : Once (map (λ w. w.lbn) run.writes)
  pub locks : AreUnderV run.writes

-- a give-back looks on, or writes
pub data IsGoingBack (g : Geometry) (stock : Stock) (run : SpaceRun) : Type 0 where
  LooksOn : is_some (next_back g stock run) ≡ true → run.writes ≡ [] → run.made ≡ 0 → IsGoingBack g stock run
  WritesBack : IsWritingBack g stock run → IsGoingBack g stock run

-- too little was found, and the stock goes back under X in CR and V in PW
pub record IsDraining (x : Cmd) (kept claimed : Row) (run : SpaceRun) (stock : Stock) (seen : Seen) : Type 0 where
  pub drain : run.phase ≡ phase.Drain
  pub shared : Has kept (X, CR)
  pub claims : claimed ≡ (V, PW) ∷ []
  pub needs : NeedsSpace x seen
  pub goes : IsGoingBack seen.geometry stock run

-- the stock goes back for good, under X and V, while the command was given nothing and has looked at no bitmap
pub record IsGivingBack (kept claimed : Row) (run : SpaceRun) (stock : Stock) (seen : Seen) : Type 0 where
  pub back : run.phase ≡ phase.Back
  pub shared : Has kept (X, CR)
  pub claims : claimed ≡ (V, PW) ∷ []
  pub space : HasNoSpace (space_of seen)
  pub apart : (l : ℕ) → Touches seen.blocks l → IsBitmap seen.geometry l → ⊥
  pub goes : IsGoingBack seen.geometry stock run

-- ---- the search of all free space

-- the stock was given back, and X, which was lowered to NL, is to be had in EX
pub record AsksAlone (x : Cmd) (kept claimed : Row) (rules : SpaceRun) (stock : Stock) (seen : Seen) : Type 0 where
  pub run : rules ≡ begun_run phase.Last
  pub claims : ((claimed ≡ []) × Has kept (X, NL)) ⊎ (claimed ≡ (X, EX) ∷ [])
  pub empty : stock ≡ empty_stock
  pub needs : NeedsSpace x seen

-- X is held in EX with no stock, and V is asked for. What was looked at are the first of the blocks that the search may look at.
pub record HasClaimed (x : Cmd) (kept claimed : Row) (run : SpaceRun) (stock : Stock) (seen : Seen) : Type 0 where
  pub last : run.phase ≡ phase.Last
  pub alone : Has kept (X, EX)
  pub claims : claimed ≡ (V, PW) ∷ []
  pub empty : stock ≡ empty_stock
  pub come : HasCome x seen
  pub in_order : run.looked ≡ looked seen.geometry (wanted_by x seen) (numbered_by x seen) (blocks_alone run.looked)

-- what the search of a command has found in the blocks that it has looked at
abbrev pub found_by : Cmd → Seen → SpaceRun → Found
found_by x seen run = found seen.geometry (wanted_by x seen) (numbered_by x seen) (blocks_alone run.looked)

-- the search goes on to look
pub record IsLooking (x : Cmd) (kept claimed : Row) (run : SpaceRun) (stock : Stock) (seen : Seen) : Type 0 where
  pub claimed_so : HasClaimed x kept claimed run stock seen
  pub needs : NeedsSpace x seen
  pub more : found_by x seen run ≡ More
  pub writes : run.writes ≡ []
  pub made : run.made ≡ 0

-- The search has found enough, and these writes take it; a number among it is above those of the system files.
pub record HasFound (x : Cmd) (kept claimed : Row) (run : SpaceRun) (stock : Stock) (seen : Seen) : Type 0 where
  pub claimed_so : HasClaimed x kept claimed run stock seen
  pub enough : found_by x seen run ≡ Enough run.writes
  pub above : is_new_number (out_after run.writes (length run.writes)).number ≡ true

-- and not all of the writes are made
pub record IsTaking (x : Cmd) (kept claimed : Row) (run : SpaceRun) (stock : Stock) (seen : Seen) : Type 0 where
  pub found : HasFound x kept claimed run stock seen
  pub needs : NeedsSpace x seen
  pub part : run.made < length run.writes
  pub ready : run.ready ≡ (out_after run.writes (length run.writes)).clusters

-- or all are made, and the command was given what they take
pub record HasTaken (x : Cmd) (kept claimed : Row) (run : SpaceRun) (stock : Stock) (seen : Seen) : Type 0 where
  pub found : HasFound x kept claimed run stock seen
  pub all : run.made ≡ length run.writes
  pub clusters : seen.clusters ≡ (out_after run.writes (length run.writes)).clusters
  pub number : seen.number ≡ (out_after run.writes (length run.writes)).number
  pub short : seen.short ≡ None

-- the search has found too little, and the command was told why
pub record IsRefused (x : Cmd) (kept claimed : Row) (run : SpaceRun) (stock : Stock) (seen : Seen) : Type 0 where
  pub claimed_so : HasClaimed x kept claimed run stock seen
  pub why : Refusal
  pub too_little : found_by x seen run ≡ Short why
  pub writes : run.writes ≡ []
  pub made : run.made ≡ 0
  pub clusters : seen.clusters ≡ []
  pub number : seen.number ≡ None
  pub short : seen.short ≡ Some why

-- ---- all of it

-- How a node stands by the rules for space of its command, which has come to them. Of the locks this says what was claimed: whether
-- that is granted, the lock table says; and what was looked at under V is seen under way, so that V is granted there.
pub data Rules (x : Cmd) (kept claimed : Row) (run : SpaceRun) (stock : Stock) (seen : Seen) : Type 0 where
  Served : IsServed x claimed run stock seen → Rules x kept claimed run stock seen
  Given : IsGiven x claimed run seen → Rules x kept claimed run stock seen
  Shared : AsksShared x claimed run stock seen → Rules x kept claimed run stock seen
  Fills : FillLooks x kept claimed run stock seen → Rules x kept claimed run stock seen
  Grabs : FillWrites x kept claimed run stock seen → Rules x kept claimed run stock seen
  Filled : HasFilled x kept claimed run stock seen → Rules x kept claimed run stock seen
  Drains : IsDraining x kept claimed run stock seen → Rules x kept claimed run stock seen
  Alone : AsksAlone x kept claimed run stock seen → Rules x kept claimed run stock seen
  Looking : IsLooking x kept claimed run stock seen → Rules x kept claimed run stock seen
  Taking : IsTaking x kept claimed run stock seen → Rules x kept claimed run stock seen
  Taken : HasTaken x kept claimed run stock seen → Rules x kept claimed run stock seen
  Refused : IsRefused x kept claimed run stock seen → Rules x kept claimed run stock seen

-- How a node stands by its rules for space, with its command or without one: no rule is begun, or it gives its stock back, or its command
-- has come to them.
pub data Spaces (cmd : Option Cmd) (kept claimed : Row) (run : SpaceRun) (stock : Stock) (seen : Seen) : Type 0 where
  Off : IsOff claimed run seen → Spaces cmd kept claimed run stock seen
  Back : IsGivingBack kept claimed run stock seen → Spaces cmd kept claimed run stock seen
  Busy : (x : Cmd) → cmd ≡ Some x → Rules x kept claimed run stock seen → Spaces cmd kept claimed run stock seen
