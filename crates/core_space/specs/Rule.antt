-- The rules for space of one node: which event comes next, and what a look comes to.
--
-- A command that needs clusters or a file number gets them from its node's stock. A stock that is not enough is filled from the
-- bitmaps, under X in CR and V in PW. Where these have too little, the stock goes back, V and X are lowered, and X is asked for in
-- EX: so every other node gives its stock back. Then, under X in EX and V in PW, all free space is searched for just the need.
use Rattle.std.specs.Prelude.{◌≡◌, ◌&&◌, ◌||◌, not, nat_lt, ℕ, Bool, true, false, List, [], Option, Some, None, length, slice_get, if◌then◌else◌}
use Rattle.base_words.specs.Fields.{Block}
use Rattle.lock_db.specs.declared.name.LockName.TheVariants.{X, V}
use Rattle.plain_cat.specs.declared.mode.Mode.{Mode}
use Rattle.plain_cat.specs.declared.mode.Mode.TheVariants.{NL, CR, PW, EX}
use Rattle.extent_cache.specs.Stock.{Stock}
use Rattle.extent_cache.specs.Takings.{holds_enough}
use Rattle.vol_parts.specs.declared.geometry.Geometry.{Geometry}
use Rattle.op_law.specs.declared.need.PlanWrite.{PlanWrite}
use Rattle.core_space.specs.declared.outcome.Search.{Search}
use Rattle.core_space.specs.declared.outcome.Search.TheVariants as search
use Rattle.core_space.specs.Answering.{answer, blocks_alone}
use Rattle.core_space.specs.declared.run.Phase.{Phase}
use Rattle.core_space.specs.declared.run.Phase.TheVariants.{Off, Fill, Drain, Last, Back}
use Rattle.core_space.specs.declared.run.SpaceRun.{SpaceRun}
use Rattle.core_space.specs.declared.run.SpaceLocks.{SpaceLocks}
use Rattle.core_space.specs.declared.run.SpaceNeed.{SpaceNeed}
use Rattle.core_space.specs.declared.event.SpaceEvent.{SpaceEvent}
use Rattle.core_space.specs.declared.event.SpaceEvent.TheVariants as event
use Rattle.core_space.specs.declared.event.Decision.{Decision}
use Rattle.core_space.specs.Filling.{clusters_to_take, lacks_number, fill_place, filled}
use Rattle.core_space.specs.Giving.{give_place, give_writes}

-- ---- how a node stands

-- how a node stands by its rules for space: the modes of its locks, what it has done, and its stock
pub record SpaceState : Type 0 where
  pub geometry : Geometry
  pub locks : SpaceLocks
  pub run : SpaceRun
  pub stock : Stock

abbrev pub no_run : SpaceRun
no_run = record { phase = Off; looked = []; writes = []; made = 0; ready = [] }

-- X is held in CR or more: a node that holds it so may have a stock
abbrev pub is_shared : Option Mode → Bool
is_shared None = false
is_shared (Some NL) = false
is_shared (Some other) = true

-- X is held in EX: no other node has a stock
abbrev pub is_exclusive : Option Mode → Bool
is_exclusive (Some EX) = true
is_exclusive other = false

-- V is held in PW: no other node changes the bitmaps
abbrev pub is_writer : Option Mode → Bool
is_writer (Some PW) = true
is_writer other = false

-- ---- the next event

-- the next write that was decided on
abbrev pub put_of : Option PlanWrite → Option SpaceEvent
put_of (Some w) = Some (event.Put w.lbn w.block)
put_of None = None

abbrev pub next_put : SpaceRun → Option SpaceEvent
next_put run = put_of (slice_get run.writes run.made)

-- the event of a write, and behind the writes this
abbrev pub after_writes : Option SpaceEvent → SpaceEvent → SpaceEvent
after_writes (Some put) e = put
after_writes None e = e

-- the next look, and behind the looks this
abbrev pub after_looks : Option ℕ → SpaceEvent → SpaceEvent
after_looks (Some lbn) e = event.Look lbn
after_looks None e = e

abbrev pub written_first : SpaceRun → SpaceEvent → SpaceEvent
written_first run e = after_writes (next_put run) e

-- where the stock is filled for a need, the next block to be looked at
abbrev pub next_fill : SpaceState → SpaceNeed → Option ℕ
next_fill s need = fill_place s.geometry (clusters_to_take need.clusters (length s.stock.clusters)) (lacks_number need.number s.stock.numbers) (blocks_alone s.run.looked)

-- where it is given back
abbrev pub next_give : SpaceState → Option ℕ
next_give s = give_place s.geometry s.stock.clusters s.stock.numbers s.run.looked

-- the stock is filled
abbrev pub fill_event : SpaceState → SpaceNeed → SpaceEvent
fill_event s need =
    if not (is_shared s.locks.x) then event.Ask X CR
    else if not (is_writer s.locks.v) then event.Ask V PW
    else written_first s.run (after_looks (next_fill s need) event.LowerV)

-- too little was found: the stock goes back, and then V and X are lowered
abbrev pub drain_event : SpaceState → SpaceEvent
drain_event s = written_first s.run (after_looks (next_give s) event.LowerX)

-- what the search of all free space comes to
abbrev pub by_search : Search → SpaceEvent
by_search (search.Look lbn) = event.Look lbn
by_search (search.Short r) = event.Short r
by_search (search.Take ws) = event.Enough

-- all free space is searched
abbrev pub last_event : SpaceState → SpaceNeed → SpaceEvent
last_event s need =
    if not (is_exclusive s.locks.x) then event.Ask X EX
    else if not (is_writer s.locks.v) then event.Ask V PW
    else written_first s.run (by_search (answer s.geometry need.clusters need.number (blocks_alone s.run.looked)))

-- the stock goes back for good
abbrev pub back_event : SpaceState → SpaceEvent
back_event s =
    if not (is_writer s.locks.v) then event.Ask V PW
    else written_first s.run (after_looks (next_give s) event.Return)

abbrev pub event_in : Phase → SpaceState → SpaceNeed → SpaceEvent
event_in Off s need = if holds_enough need.clusters need.number s.stock then event.Enough else fill_event s need
event_in Fill s need = fill_event s need
event_in Drain s need = drain_event s
event_in Last s need = last_event s need
event_in Back s need = back_event s

-- the next event of a node's rules for space, where its command has this need
abbrev pub space_event : SpaceState → SpaceNeed → SpaceEvent
space_event s need = event_in s.run.phase s need

-- ---- a give-back

-- X is held in CR
abbrev pub is_reader : Option Mode → Bool
is_reader (Some CR) = true
is_reader other = false

-- the stock holds clusters or numbers
abbrev pub has_any : Stock → Bool
has_any s = nat_lt 0 (length s.clusters) || nat_lt 0 (length s.numbers)

-- A stock is to go back where another node waits for X, which this node holds in CR, unless the node's command is busy: it has come
-- to its rules for space, or holds or awaits V. It is so too where the node's commands have ended and it has a stock.
abbrev pub is_due : SpaceLocks → Stock → Bool → Bool → Bool → Bool
is_due locks stock wanted busy ended = (is_reader locks.x && (wanted && not busy)) || (ended && has_any stock)

-- Finding the event takes memory only where all writes are made, and all free space is searched.
pub record TakesMemory (s : SpaceState) : Type 0 where
  pub made : slice_get s.run.writes s.run.made ≡ None
  pub searches : s.run.phase ≡ Last

-- ---- what a look comes to

-- the rule looks on in this phase, or has nothing to write
abbrev pub looks_on : Phase → Decision
looks_on p = record { phase = p; writes = []; short = None }

-- these writes come next
abbrev pub decides : Phase → List PlanWrite → Decision
decides p ws = record { phase = p; writes = ws; short = None }

-- the stock is given back once all blocks of it are looked at
abbrev pub give_by : Phase → Geometry → List (ℕ × Block) → Stock → Option ℕ → Decision
give_by p g looked stock (Some lbn) = looks_on p
give_by p g looked stock None = decides p (give_writes g stock.clusters stock.numbers looked)

abbrev pub gives : Phase → Geometry → List (ℕ × Block) → Stock → Decision
gives p g looked stock = give_by p g looked stock (give_place g stock.clusters stock.numbers looked)

-- the stock is filled once all is looked at, or where there is too little given back
abbrev pub fill_or_give : Geometry → List (ℕ × Block) → Stock → Option (List PlanWrite) → Decision
fill_or_give g looked stock (Some ws) = decides Fill ws
fill_or_give g looked stock None = gives Drain g looked stock

abbrev pub fill_by : Geometry → List (ℕ × Block) → Stock → SpaceNeed → Option ℕ → Decision
fill_by g looked stock need (Some lbn) = looks_on Fill
fill_by g looked stock need None =
    fill_or_give g looked stock (filled g need.clusters (length stock.clusters) (lacks_number need.number stock.numbers) (blocks_alone looked))

abbrev pub fills : Geometry → List (ℕ × Block) → Stock → SpaceNeed → Decision
fills g looked stock need =
    fill_by g looked stock need (fill_place g (clusters_to_take need.clusters (length stock.clusters)) (lacks_number need.number stock.numbers) (blocks_alone looked))

-- the search of all free space
abbrev pub search_by : Search → Decision
search_by (search.Look lbn) = looks_on Last
search_by (search.Short r) = record { phase = Last; writes = []; short = Some r }
search_by (search.Take ws) = decides Last ws

abbrev pub decision_in : Phase → Geometry → List (ℕ × Block) → Stock → SpaceNeed → Decision
decision_in Off g looked stock need = looks_on Off
decision_in Fill g looked stock need = fills g looked stock need
decision_in Drain g looked stock need = gives Drain g looked stock
decision_in Last g looked stock need = search_by (answer g need.clusters need.number (blocks_alone looked))
decision_in Back g looked stock need = gives Back g looked stock

-- what the blocks looked at come to, the last one included
abbrev pub space_decision : Geometry → SpaceRun → Stock → SpaceNeed → Decision
space_decision g run stock need = decision_in run.phase g run.looked stock need
