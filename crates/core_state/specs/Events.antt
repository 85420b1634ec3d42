-- The event of a node's turn, and what it makes of the world.
use Rattle.std.specs.Prelude.{◌==◌, ◌+◌, ◌++◌, ◌||◌, ◌&&◌, not, ℕ, Bool, true, false, List, [], ◌∷◌, Option, Some, None, is_none, is_some, filter, find, slice_get, slice_set, length, if◌then◌else◌}
use Rattle.base_words.specs.Fields.{Block, block_at}
use Rattle.lock_db.specs.declared.name.LockName.{LockName}
use Rattle.lock_db.specs.declared.name.LockName.TheVariants.{A, X, V}
use Rattle.lock_db.specs.declared.resource.Resource.{Resource}
use Rattle.lock_db.specs.Names.{is_same}
use Rattle.lock_db.specs.Queues.{holds_up}
use Rattle.lock_db.specs.Tables.{resource_at, converted, released}
use Rattle.plain_cat.specs.declared.mode.Mode.{Mode}
use Rattle.plain_cat.specs.declared.mode.Mode.TheVariants.{NL}
use Rattle.plain_cat.specs.declared.command.Cmd.{Cmd}
use Rattle.plain_cat.specs.declared.reply.Reply.{Reply}
use Rattle.plain_cat.specs.declared.reply.Refusal.{Refusal}
use Rattle.plain_cat.specs.declared.history.Entry.TheVariants.{Done}
use Rattle.plain_rules.specs.Own.{after_answer, next_command}
use Rattle.vol_parts.specs.declared.geometry.Geometry.{Geometry}
use Rattle.node_locks.specs.Held.{system_of, waits_at, without}
use Rattle.node_locks.specs.Taking.{taken, taken_now}
use Rattle.node_locks.specs.Sequences.{raised_block}
use Rattle.op_law.specs.declared.need.Need.{Need}
use Rattle.op_law.specs.declared.need.Need.TheVariants as need
use Rattle.op_law.specs.declared.need.Plan.{Plan}
use Rattle.op_law.specs.declared.need.PlanWrite.{PlanWrite}
use Rattle.op_law.specs.declared.need.Ask.{Ask as PlanAsk}
use Rattle.op_law.specs.declared.seen.Seen.{Seen}
use Rattle.op_law.specs.Needs.{need_of}
use Rattle.op_law.specs.Going.{with_lock, with_block, with_space}
use Rattle.extent_cache.specs.Takings.{holds_enough, lowest}
use Rattle.core_space.specs.Taking.{out_after}
use Rattle.core_space.specs.declared.run.Phase.{Phase}
use Rattle.core_space.specs.declared.run.Phase.TheVariants as phase
use Rattle.core_space.specs.declared.run.SpaceRun.{SpaceRun}
use Rattle.core_space.specs.declared.run.SpaceLocks.{SpaceLocks}
use Rattle.core_space.specs.declared.run.SpaceNeed.{SpaceNeed}
use Rattle.core_space.specs.declared.event.SpaceEvent.{SpaceEvent}
use Rattle.core_space.specs.declared.event.SpaceEvent.TheVariants as space
use Rattle.core_space.specs.declared.event.Decision.{Decision}
use Rattle.node_cache.specs.Cached.{Cached, used}
use Rattle.core_space.specs.Lasting.{stays_by}
use Rattle.core_space.specs.Rule.{SpaceState, no_run, has_any, is_due, space_event, back_event, space_decision}
use Rattle.core_state.specs.Event.{Event}
use Rattle.core_state.specs.Event as event
use Rattle.core_state.specs.Worlds.{Stock, NodeState, Plain, node_at, with_node, current}
use Rattle.core_state.specs.Stocks.{roomless, filled_by, without_lowest, left_by}
use Rattle.core_state.specs.Searches.{begun_run}
use Rattle.core_state.specs.Channels.{channel_seen, opens_then, closed_off}
use Rattle.core_state.specs.Asks.{has_asked, is_claiming, writes_by, writes_now, asker_of, own_of, with_ask}
use Rattle.core_state.specs.Raises.{raise_of}
use Rattle.core_state.specs.Caches.{sequence_now, current_entry, kept_by_look, rewritten, put_back_all, lowered_of}
use Rattle.base_words.specs.Faults.{next as one_more}

-- ---- which event comes

-- the mode in which one of these locks is on a name
abbrev pub mode_of_lock : Option (LockName × Mode) → Option Mode
mode_of_lock None = None
mode_of_lock (Some l) = Some l.1

abbrev pub mode_in : LockName → List (LockName × Mode) → Option Mode
mode_in name locks = mode_of_lock (find (λ l. is_same l.0 name) locks)

-- the modes in which it holds X and V by its rules for space, where it does not wait for the one that it has claimed
abbrev pub space_locks : NodeState → SpaceLocks
space_locks s = record { x = mode_in X (s.kept ++ s.claims); v = mode_in V (s.kept ++ s.claims) }

-- the node as its rules for space see it
abbrev pub space_state : NodeState → SpaceState
space_state s = record { geometry = s.seen.geometry; locks = space_locks s; run = s.run; stock = roomless s.stock }

-- the next write of its rules for space
abbrev pub by_put : Option PlanWrite → Event
by_put (Some w) = event.SpaceWrite w
by_put None = event.SpaceEnd

-- the event of its rules for space, which go on in this phase, for so many clusters and a number or none
abbrev pub by_rule : NodeState → Phase → SpaceNeed → SpaceEvent → Event
by_rule s p need space.Enough = event.SpaceEnd
by_rule s p need (space.Ask name mode) = event.Claim p name mode
by_rule s p need space.LowerX = event.LowerX
by_rule s p need (space.Look lbn) = event.SpaceLook need.clusters need.number lbn
by_rule s p need (space.Put lbn b) = by_put (slice_get s.run.writes s.run.made)
by_rule s p need space.LowerV = event.LowerV
by_rule s p need space.Return = event.Return
by_rule s p need (space.Short r) = event.SpaceEnd

-- the phase of a rule that has begun: of one that is not begun that in which the stock is filled
abbrev pub phase_begun : Phase → Phase
phase_begun phase.Off = phase.Fill
phase_begun other = other

-- a command may be given from the stock: its node has not claimed a lock of free space, and does not search all of it
abbrev pub may_serve : Phase → Bool → Bool
may_serve phase.Off claiming = not claiming
may_serve phase.Fill claiming = not claiming
may_serve other claiming = false

-- and the stock is enough
abbrev pub serves : NodeState → ℕ → Bool → Bool
serves s clusters number = may_serve s.run.phase (is_claiming s.claims) && holds_enough clusters number (roomless s.stock)

abbrev pub space_need : ℕ → Bool → SpaceNeed
space_need clusters number = record { clusters = clusters; number = number }

-- its command needs space, which its stock has not
abbrev pub by_space : NodeState → ℕ → Bool → Event
by_space s clusters number =
    if serves s clusters number then event.SpaceEnd
    else by_rule s (phase_begun s.run.phase) (space_need clusters number) (space_event (space_state s) (space_need clusters number))

abbrev pub by_need : NodeState → Need → Event
by_need s (need.Lock name mode) = event.Lock name mode
by_need s (need.Block name lbn) = event.Look name lbn
by_need s (need.Bare lbn) = event.Fetch lbn
by_need s (need.Space clusters number) = by_space s clusters number
by_need s (need.Ready p) = event.Plan p

-- behind the writes an ask that was not granted yet, or the answer
abbrev pub by_end : Cmd → Reply → Bool → Option PlanAsk → Event
by_end x r tried None = event.Answer x r
by_end x r true (Some a) = event.Answer x r
by_end x r false (Some a) = event.Ask x a

-- the next write of a plan, and behind them what ends it
abbrev pub by_write : Cmd → Plan → Bool → Option PlanWrite → Event
by_write x p tried (Some w) = event.Write w
by_write x p tried None = by_end x p.reply tried p.ask

abbrev pub by_plan : Cmd → NodeState → Option Plan → Event
by_plan x s None = by_need s (need_of x s.seen)
by_plan x s (Some p) = by_write x p s.tried (slice_get (writes_by p.ask s.tried p.writes) s.done)

-- the event of a node that has prepared for it, is not over, and does not wait
abbrev pub by_command : NodeState → Option Cmd → Event
by_command s None = event.Leave
by_command s (Some x) = by_plan x s s.plan

-- a node has left, or is dead
abbrev pub is_out : NodeState → Bool
is_out s = s.over || s.past.dead

-- ---- a give-back

-- no command is left to a node
abbrev pub is_ended : Plain → ℕ → NodeState → Bool
is_ended w n s = is_none (current w n s)

-- another node waits for X, which this one holds
abbrev pub is_wanted : Plain → ℕ → Bool
is_wanted w n = holds_up (system_of n) (resource_at X w.locks).askers

-- Its stock is to go back, in this phase of its rules: they are not begun, and it is due. Its command is busy with V where it has
-- asked for it; one that has come to its rules for space is in another phase.
abbrev pub is_due_in : Plain → ℕ → NodeState → Phase → Bool
is_due_in w n s phase.Off = is_due (space_locks s) (roomless s.stock) (is_wanted w n) (has_asked V s.asked) (is_ended w n s)
is_due_in w n s other = false

-- a give-back is under way, or due
abbrev pub gives_back_in : Plain → ℕ → NodeState → Phase → Bool
gives_back_in w n s phase.Back = true
gives_back_in w n s other = is_due_in w n s other

abbrev pub gives_back : Plain → ℕ → NodeState → Bool
gives_back w n s = gives_back_in w n s s.run.phase

-- the event of a give-back
abbrev pub by_back : NodeState → Event
by_back s = by_rule s phase.Back (space_need 0 false) (back_event (space_state s))

-- ---- the first rule that applies

-- its request stands in a queue still, for its rules for space, or else for its command
abbrev pub stands : Plain → ℕ → NodeState → Bool
stands w n s = waits_at w.locks n s.claims || (not (gives_back w n s) && waits_at w.locks n s.asked)

-- a current entry is cached of a block, under a lock
abbrev pub has_current : Plain → NodeState → LockName → ℕ → Bool
has_current w s name lbn = is_some (current_entry w.geometry w.locks name lbn s.cache)

-- a look at a block of which the node has a current entry is a use of it
abbrev pub or_use : Plain → NodeState → Event → Event
or_use w s (event.Look name lbn) = if has_current w s name lbn then event.Use name lbn else event.Look name lbn
or_use w s (event.SpaceLook clusters number lbn) = if has_current w s V lbn then event.SpaceUse clusters number lbn else event.SpaceLook clusters number lbn
or_use w s other = other

-- the event of a node that is not out and does not wait
abbrev pub by_turn : NodeState → Bool → Event
by_turn s true = by_back s
by_turn s false = by_command s s.cmd

-- the first rule that applies to a node that has prepared for its event
abbrev pub event_of : Plain → ℕ → Option NodeState → Event
event_of w n None = event.Rest
event_of w n (Some s) = if is_out s then event.Rest else if stands w n s then event.Stand else or_use w s (by_turn s (gives_back w n s))

abbrev pub event_now : Plain → ℕ → Event
event_now w n = event_of w n (node_at w.nodes n)

-- ---- what comes before it

-- a node with the command x, for which it has seen what the channel of the command has open
abbrev pub begun : NodeState → Cmd → NodeState
begun s x = record s { cmd = Some x; seen = record s.seen { channel = channel_seen s.opens x } }

-- a node without a command begins its next one
abbrev pub prepared_by : NodeState → Option Cmd → Option Cmd → NodeState
prepared_by s (Some x) next = s
prepared_by s None (Some x) = begun s x
prepared_by s None None = s

-- what a command was given from the stock: the lowest of it
abbrev pub serving : NodeState → ℕ → Bool → NodeState
serving s clusters number = record s {
  seen = with_space (lowest clusters number (roomless s.stock)).clusters (lowest clusters number (roomless s.stock)).number None s.seen;
  stock = without_lowest clusters number s.stock;
  run = record s.run { phase = phase.Fill };
}

-- where its command needs space, and its stock is enough, it is given it
abbrev pub served_for : NodeState → Need → NodeState
served_for s (need.Space clusters number) = if serves s clusters number then serving s clusters number else s
served_for s other = s

abbrev pub served_by : NodeState → Option Cmd → Option Plan → NodeState
served_by s (Some x) None = served_for s (need_of x s.seen)
served_by s cmd plan = s

abbrev pub served : NodeState → NodeState
served s = served_by s s.cmd s.plan

-- a node that is out, waits or gives its stock back prepares nothing
abbrev pub is_held_up : Plain → ℕ → NodeState → Bool
is_held_up w n s = is_out s || (gives_back w n s || stands w n s)

-- What a node does before its event, and without an event of its own: it begins its next command, where it has none, and is given
-- space from its stock, where it needs space and the stock is enough.
abbrev pub prepared : Plain → ℕ → NodeState → NodeState
prepared w n s = if is_held_up w n s then s else served (prepared_by s s.cmd (next_command w.script n w.history))

abbrev pub readied_at : Plain → ℕ → Option NodeState → Plain
readied_at w n None = w
readied_at w n (Some s) = with_node w n (prepared w n s)

-- the world in which node n has prepared for its event
abbrev pub readied : Plain → ℕ → Plain
readied w n = readied_at w n (node_at w.nodes n)

-- the event of the next turn of a node
abbrev pub next_event : Plain → ℕ → Event
next_event w n = event_now (readied w n) n

-- whether the next event of a node is a write
abbrev pub is_write : Event → Bool
is_write (event.Write w) = true
is_write (event.SpaceWrite w) = true
is_write other = false

-- the locks given back, in order, each with its value block raised by the writes under it
abbrev pub given_back : Geometry → ℕ → List PlanWrite → List (LockName × Mode) → List Resource → List Resource
given_back g n ws [] t = t
given_back g n ws (l ∷ locks) t = given_back g n ws locks (released l.0 (system_of n) (raised_block l.0 (raise_of g l.0 ws) (resource_at l.0 t)) t)

-- the locks given back with their value blocks left as they are
abbrev pub left_alone : ℕ → List (LockName × Mode) → List Resource → List Resource
left_alone n [] t = t
left_alone n (l ∷ locks) t = left_alone n locks (released l.0 (system_of n) (resource_at l.0 t).value t)

-- the writes of a node's search and those of its plan, where its ask was not granted those before it
abbrev pub all_writes : NodeState → List PlanWrite
all_writes s = s.run.writes ++ writes_now s.tried s.plan

-- nothing is seen yet
abbrev pub unseen : Seen → Seen
unseen seen = record { geometry = seen.geometry; channel = None; locks = []; blocks = []; clusters = []; number = None; short = None }

abbrev pub turned : NodeState → NodeState
turned s = record s { turns = one_more s.turns }

abbrev pub locking : NodeState → LockName → Mode → NodeState
locking s name mode = record s { asked = s.asked ++ (name, mode) ∷ []; kept = without name s.kept; seen = with_lock name mode s.seen }

-- X or V is claimed: X, which was claimed before it, is kept
abbrev pub claiming : NodeState → Phase → LockName → Mode → NodeState
claiming s p name mode = record s { kept = without name (s.kept ++ s.claims); claims = (name, mode) ∷ []; run = record s.run { phase = p } }

-- a block was read from the drive, or found cached
abbrev pub reading : NodeState → NodeState
reading s = record s { reads = one_more s.reads }

abbrev pub hitting : NodeState → NodeState
hitting s = record s { hits = one_more s.hits }

-- its cache has these entries now
abbrev pub caching : List Cached → NodeState → NodeState
caching es s = record s { cache = es }

-- its command has seen a block
abbrev pub seeing : NodeState → ℕ → Block → NodeState
seeing s lbn b = record s { seen = with_block lbn b s.seen }

abbrev pub looking : NodeState → ℕ → Block → NodeState
looking s lbn b = reading (seeing s lbn b)

abbrev pub using : NodeState → ℕ → Block → NodeState
using s lbn b = hitting (seeing s lbn b)

-- the bytes of the current entry of a block, and the cache with that entry in front
abbrev pub cached_block : Option Cached → Block
cached_block None = []
cached_block (Some e) = e.block

abbrev pub block_used : Plain → NodeState → LockName → ℕ → Block
block_used w s name lbn = cached_block (current_entry w.geometry w.locks name lbn s.cache)

abbrev pub cache_used : Plain → NodeState → LockName → ℕ → List Cached
cache_used w s name lbn = used lbn name (sequence_now w.geometry w.locks name lbn) s.cache

-- the cache after a block was read from the drive
abbrev pub cache_looked : Plain → ℕ → NodeState → LockName → ℕ → List Cached
cache_looked w n s name lbn = kept_by_look w.geometry w.locks n name lbn (block_at w.blocks lbn) s.cache

-- and after a write
abbrev pub cache_written : Plain → NodeState → PlanWrite → List Cached
cache_written w s v = rewritten w.geometry w.locks v s.cache

-- what the command has seen once its rules for space have come to this: why it was refused, where it was
abbrev pub told_by : Option Refusal → Seen → Seen
told_by (Some r) seen = with_space [] None (Some r) seen
told_by None seen = seen

-- a block more is looked at
abbrev pub looked_on : SpaceRun → ℕ → Block → SpaceRun
looked_on run lbn b = record run { looked = run.looked ++ (lbn, b) ∷ [] }

-- the clusters that the last of these writes gives to the command, in the search of all free space
abbrev pub ready_of : Phase → List PlanWrite → List ℕ
ready_of phase.Last ws = (out_after ws (length ws)).clusters
ready_of other ws = []

-- they are listed until then
abbrev pub ready_left : Phase → Bool → List ℕ → List ℕ
ready_left phase.Last true clusters = []
ready_left p last clusters = clusters

-- a look by the rules for space, with what they come to by it
abbrev pub space_decided : NodeState → List (ℕ × Block) → Decision → NodeState
space_decided s looked d = record s {
  seen = told_by d.short s.seen;
  run = record { phase = d.phase; looked = looked; writes = d.writes; made = 0; ready = ready_of d.phase d.writes };
}

-- what they come to by this block
abbrev pub decision_on : NodeState → ℕ → Bool → ℕ → Block → Decision
decision_on s clusters number lbn b = space_decision s.seen.geometry (looked_on s.run lbn b) (roomless s.stock) (space_need clusters number)

abbrev pub space_looked : NodeState → List (ℕ × Block) → Decision → NodeState
space_looked s looked d = reading (space_decided s looked d)

abbrev pub space_looking : NodeState → ℕ → Bool → ℕ → Block → NodeState
space_looking s clusters number lbn b = space_looked s (looked_on s.run lbn b).looked (decision_on s clusters number lbn b)

abbrev pub space_using : NodeState → ℕ → Bool → ℕ → Block → NodeState
space_using s clusters number lbn b = hitting (space_decided s (looked_on s.run lbn b).looked (decision_on s clusters number lbn b))

-- with its last write a search of all free space gives the command what it has taken
abbrev pub given_by : Phase → Bool → PlanWrite → Seen → Seen
given_by phase.Last true v seen = with_space v.clusters v.number None seen
given_by p last v seen = seen

-- With its last write a filling puts what it has taken into the stock. With each write of a give-back what it makes free leaves the
-- stock.
abbrev pub stocked_by : Phase → Bool → Geometry → PlanWrite → Stock → Stock
stocked_by phase.Fill true g v stock = filled_by v stock
stocked_by phase.Drain last g v stock = left_by g v.lbn stock
stocked_by phase.Back last g v stock = left_by g v.lbn stock
stocked_by p last g v stock = stock

-- the next write is the last
abbrev pub is_last : SpaceRun → Bool
is_last run = run.made + 1 == length run.writes

abbrev pub space_writing : NodeState → PlanWrite → NodeState
space_writing s v = record s {
  seen = given_by s.run.phase (is_last s.run) v s.seen;
  stock = stocked_by s.run.phase (is_last s.run) s.seen.geometry v s.stock;
  run = record s.run { made = s.run.made + 1; ready = ready_left s.run.phase (is_last s.run) s.run.ready };
  writes = one_more s.writes;
}

-- the stock is filled, and V lowered
abbrev pub lowering : NodeState → NodeState
lowering s = record s { kept = s.kept ++ (V, NL) ∷ []; claims = []; run = begun_run phase.Fill }

-- V is lowered, and behind it X
abbrev pub lowering_both : NodeState → NodeState
lowering_both s = record s { kept = without X (s.kept ++ (V, NL) ∷ []) ++ (X, NL) ∷ []; claims = []; run = begun_run phase.Last }

-- V is lowered, and X given back
abbrev pub returning : NodeState → NodeState
returning s = record s { kept = without X (s.kept ++ (V, NL) ∷ []); claims = []; run = no_run }

abbrev pub planning : NodeState → Plan → NodeState
planning s p = record s { plan = Some p; done = 0; tried = false }

-- its ask was granted: where it is by the file system, its lock is the last of the command's
abbrev pub asking : NodeState → PlanAsk → NodeState
asking s a = record s { asked = with_ask s.asked (own_of (Some a)); tried = true }

abbrev pub writing : NodeState → NodeState
writing s = record s { done = s.done + 1; writes = one_more s.writes }

-- a kept lock stays behind an answer: X, where the stock has something, and any other where a cached block is under it
abbrev pub stays : NodeState → LockName × Mode → Bool
stays s l = stays_by (has_any (roomless s.stock)) s.cache l

-- the kept locks that stay, and those that go back
abbrev pub staying : NodeState → List (LockName × Mode)
staying s = filter (stays s) s.kept

abbrev pub going : NodeState → List (LockName × Mode)
going s = filter (λ l. not (stays s l)) s.kept

-- the locks of the command, and that of its rules for space
abbrev pub used_locks : NodeState → List (LockName × Mode)
used_locks s = s.asked ++ s.claims

abbrev pub answering : NodeState → Cmd → Reply → NodeState
answering s x r = record s {
  past = after_answer s.past x r;
  cmd = None;
  seen = unseen s.seen;
  plan = None;
  done = 0;
  tried = false;
  asked = [];
  kept = staying s ++ lowered_of s.cache (used_locks s);
  claims = [];
  opens = opens_then s.opens x r;
  run = no_run;
}

-- a node leaves with no lock and no cached block
abbrev pub leaving : NodeState → NodeState
leaving s = record s { kept = []; cache = []; over = true }

-- the locks after those of the command are put back, and those that the node kept and that do not stay
abbrev pub all_put_back : Plain → ℕ → NodeState → List Resource
all_put_back w n s = given_back w.geometry n (all_writes s) (going s) (put_back_all w.geometry n (all_writes s) s.cache (used_locks s) w.locks)

-- The locks after an answer: behind all of these goes that of its channel, where it was closed. A channel that OPEN has opened keeps
-- its lock.
abbrev pub locks_after : Plain → ℕ → NodeState → Cmd → Reply → List Resource
locks_after w n s x r = closed_off n (channel_seen s.opens x) x r (all_put_back w n s)

-- after V is lowered from PW, its value block raised by the writes under it
abbrev pub v_lowered : Plain → ℕ → NodeState → List Resource
v_lowered w n s = converted V (system_of n) NL (raised_block V (raise_of w.geometry V s.run.writes) (resource_at V w.locks)) w.locks

-- after X is lowered, and after it is given back
abbrev pub x_lowered : ℕ → List Resource → List Resource
x_lowered n t = converted X (system_of n) NL (resource_at X t).value t

abbrev pub x_returned : ℕ → List Resource → List Resource
x_returned n t = released X (system_of n) (resource_at X t).value t

-- node n, which stands as s, answers
abbrev pub answered_by : Plain → ℕ → NodeState → Cmd → Reply → Plain
answered_by w n s x r = with_node (record w { history = w.history ++ Done n x r ∷ []; locks = locks_after w n s x r }) n (turned (answering s x r))

-- an ask of a part of node n would be granted at once
abbrev pub would_go : List Resource → ℕ → PlanAsk → Bool
would_go t n a = taken_now (A a.file) (asker_of n a) a.mode t

-- node n asks: it goes on where that is granted, and else it answers
abbrev pub asked_by : Plain → ℕ → NodeState → Cmd → PlanAsk → Bool → Plain
asked_by w n s x a true = with_node (record w { locks = taken (A a.file) (asker_of n a) a.mode w.locks }) n (turned (asking s a))
asked_by w n s x a false = answered_by w n s x a.refused

-- an event of node n, which stands as s
abbrev pub happens : Plain → ℕ → NodeState → Event → Plain
happens w n s event.Rest = with_node w n (turned s)
happens w n s event.Stand = with_node w n (turned s)
happens w n s event.Leave = with_node (record w { locks = left_alone n s.kept w.locks }) n (turned (leaving s))
happens w n s (event.Lock name mode) = with_node (record w { locks = taken name (system_of n) mode w.locks }) n (turned (locking s name mode))
happens w n s (event.Look name lbn) = with_node w n (turned (caching (cache_looked w n s name lbn) (looking s lbn (block_at w.blocks lbn))))
happens w n s (event.Use name lbn) = with_node w n (turned (caching (cache_used w s name lbn) (using s lbn (block_used w s name lbn))))
happens w n s (event.Fetch lbn) = with_node w n (turned (looking s lbn (block_at w.blocks lbn)))
happens w n s (event.Claim p name mode) = with_node (record w { locks = taken name (system_of n) mode w.locks }) n (turned (claiming s p name mode))
happens w n s (event.SpaceLook clusters number lbn) = with_node w n (turned (caching (cache_looked w n s V lbn) (space_looking s clusters number lbn (block_at w.blocks lbn))))
happens w n s (event.SpaceUse clusters number lbn) = with_node w n (turned (caching (cache_used w s V lbn) (space_using s clusters number lbn (block_used w s V lbn))))
happens w n s event.LowerV = with_node (record w { locks = v_lowered w n s }) n (turned (lowering s))
happens w n s event.LowerX = with_node (record w { locks = x_lowered n (v_lowered w n s) }) n (turned (lowering_both s))
happens w n s event.Return = with_node (record w { locks = x_returned n (v_lowered w n s) }) n (turned (returning s))
happens w n s event.SpaceEnd = with_node w n (turned s)
happens w n s (event.SpaceWrite v) = with_node (record w { blocks = slice_set w.blocks v.lbn v.block }) n (turned (caching (cache_written w s v) (space_writing s v)))
happens w n s (event.Plan p) = with_node w n (turned (planning s p))
happens w n s (event.Write v) = with_node (record w { blocks = slice_set w.blocks v.lbn v.block }) n (turned (caching (cache_written w s v) (writing s)))
happens w n s (event.Ask x a) = asked_by w n s x a (would_go w.locks n a)
happens w n s (event.Answer x r) = answered_by w n s x r

abbrev pub happen_at : Plain → ℕ → Option NodeState → Event → Plain
happen_at w n None e = w
happen_at w n (Some s) e = happens w n s e

-- the world after an event of node n
abbrev pub happen : Plain → ℕ → Event → Plain
happen w n e = happen_at w n (node_at w.nodes n) e

-- the world after a turn of node n: it prepares, and then comes its event
abbrev pub after_turn : Plain → ℕ → Plain
after_turn w n = happen (readied w n) n (next_event w n)

-- a node has left
abbrev pub is_over_in : Option NodeState → Bool
is_over_in None = true
is_over_in (Some s) = is_out s

abbrev pub is_over : Plain → ℕ → Bool
is_over w n = is_over_in (node_at w.nodes n)

-- one of the counts of a node
abbrev pub counted_in : (NodeState → ℕ) → Option NodeState → ℕ
counted_in count None = 0
counted_in count (Some s) = count s

abbrev pub count_of : (NodeState → ℕ) → Plain → ℕ → ℕ
count_of count w n = counted_in count (node_at w.nodes n)

-- the command that a node has begun
abbrev pub command_in : Option NodeState → Option Cmd
command_in None = None
command_in (Some s) = s.cmd

abbrev pub command_at : Plain → ℕ → Option Cmd
command_at w n = command_in (node_at w.nodes n)

-- the plan that a node has decided on
abbrev pub plan_in : Option NodeState → Option Plan
plan_in None = None
plan_in (Some s) = s.plan

abbrev pub plan_at : Plain → ℕ → Option Plan
plan_at w n = plan_in (node_at w.nodes n)

-- the ask of a node's plan was granted
abbrev pub tried_in : Option NodeState → Bool
tried_in None = false
tried_in (Some s) = s.tried

abbrev pub tried_at : Plain → ℕ → Bool
tried_at w n = tried_in (node_at w.nodes n)

-- the event of a node that goes on with its command
abbrev pub command_event_of : Option NodeState → Event
command_event_of None = event.Rest
command_event_of (Some s) = by_command s s.cmd

abbrev pub command_event : Plain → ℕ → Event
command_event w n = command_event_of (node_at w.nodes n)
