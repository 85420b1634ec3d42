-- How the events of a run are written.
use Rattle.std.specs.Prelude.{◌==◌, ◌++◌, ℕ, zero, suc, List, [], ◌∷◌, Option, Some, None, codes, decimal, flat_map, length, is_some, if◌then◌else◌}
use Rattle.lock_db.specs.declared.name.LockName.{LockName}
use Rattle.lock_db.specs.declared.name.LockName.TheVariants.{S, A, Q, X, V}
use Rattle.lock_db.specs.declared.resource.Resource.{Resource}
use Rattle.lock_db.specs.Queues.{mode_of}
use Rattle.lock_db.specs.Tables.{resource_at}
use Rattle.plain_cat.specs.declared.mode.Mode.{Mode}
use Rattle.plain_cat.specs.declared.mode.Mode.TheVariants.{NL}
use Rattle.plain_cat.specs.declared.command.Cmd.{Cmd}
use Rattle.plain_cat.specs.declared.reply.Reply.{Reply}
use Rattle.plain_cat.specs.declared.history.Entry.{Entry}
use Rattle.plain_cat.specs.declared.history.Entry.TheVariants.{Died}
use Rattle.plain_texts.specs.Commands.{command_text}
use Rattle.plain_texts.specs.Names.{mode_text}
use Rattle.plain_texts.specs.Replies.{reply_text}
use Rattle.plain_texts.specs.Reports.{stage_text, leaks_text, newline}
use Rattle.node_locks.specs.Held.{system_of, is_queued_at}
use Rattle.core_space.specs.declared.run.Phase.{Phase}
use Rattle.core_space.specs.declared.run.Phase.TheVariants as phase
use Rattle.core_state.specs.Worlds.{NodeState}
use Rattle.core_state.specs.Event.{Event}
use Rattle.core_state.specs.Event as event

-- ---- locks

-- the name of a lock
unfoldable pub name_text : LockName → List ℕ
name_text (S n) = codes "S(" ++ (decimal n ++ codes ")")
name_text (A n) = codes "A(" ++ (decimal n ++ codes ")")
name_text Q = codes "Q"
name_text X = codes "X"
name_text V = codes "V"

-- a lock: its name, and the mode in which it is asked for or held
unfoldable pub lock_text : LockName × Mode → List ℕ
lock_text l = name_text l.0 ++ (codes " " ++ mode_text l.1)

-- the mode in which node m holds a lock, if that is not NL, which is in nobody's way
unfoldable pub held_text : ℕ → Option Mode → List ℕ
held_text m None = []
held_text m (Some NL) = []
held_text m (Some mode) = codes ", N" ++ (decimal m ++ (codes " has " ++ mode_text mode))

-- the same of the lock on this name that the file system of node m has, for node n to read
unfoldable pub holder_text : List Resource → LockName → ℕ → ℕ → List ℕ
holder_text t name n m = if m == n then [] else held_text m (mode_of (system_of m) (resource_at name t).askers)

-- of all other nodes up to this one
unfoldable pub holders_text : List Resource → LockName → ℕ → ℕ → List ℕ
holders_text t name n zero = []
holders_text t name n (suc m) = holders_text t name n m ++ holder_text t name n (suc m)

-- node n, of so many, has asked for a lock: it was granted, or it stands in a queue, and who holds it
unfoldable pub asked_text : List Resource → ℕ → ℕ → LockName × Mode → List ℕ
asked_text t count n l = codes "lock " ++ (lock_text l ++ (if is_queued_at t n l then codes " queued" ++ holders_text t l.0 n count else codes " granted"))

-- ---- answers and deaths

-- a lock that a node keeps behind an answer
unfoldable pub kept_text : LockName × Mode → List ℕ
kept_text l = codes "; keeps " ++ lock_text l

-- an answer, and the locks that the node keeps behind it: all others have gone back
unfoldable pub answer_text : Cmd → Reply → List (LockName × Mode) → List ℕ
answer_text cmd reply kept = codes "answers " ++ (command_text cmd ++ (codes " = " ++ (reply_text reply ++ flat_map kept_text kept)))

-- a death, by its entry
unfoldable pub death_text : Entry → List ℕ
death_text (Died n stage clusters numbers) = codes "dies at " ++ (stage_text stage ++ (codes ", leaks " ++ leaks_text clusters (length numbers.items)))
death_text other = []

-- ---- blocks

-- a word for what is done with a block, its number, and what it is for
unfoldable pub block_text : List ℕ → ℕ → List ℕ → List ℕ
block_text verb lbn why = verb ++ (decimal lbn ++ why)

-- what a write of the rules for space is for, by their phase
unfoldable pub purpose_text : Phase → List ℕ
purpose_text phase.Off = codes " for space"
purpose_text phase.Fill = codes " to fill the stock"
purpose_text phase.Drain = codes " to give the stock back"
purpose_text phase.Last = codes " for the command"
purpose_text phase.Back = codes " to give the stock back"

-- ---- events

-- The event of node n, one of so many, which stands as s behind it; behind it the locks are these. A turn in which a request goes on
-- waiting prints nothing.
unfoldable pub event_text : List Resource → ℕ → ℕ → NodeState → Event → List ℕ
event_text t count n s event.Rest = []
event_text t count n s event.Stand = []
event_text t count n s event.Leave = codes "leaves"
event_text t count n s (event.Lock name mode) = asked_text t count n (name, mode)
event_text t count n s (event.Look name lbn) = block_text (codes "read ") lbn []
event_text t count n s (event.Use name lbn) = block_text (codes "hit ") lbn []
event_text t count n s (event.Fetch lbn) = block_text (codes "read ") lbn []
event_text t count n s (event.Claim p name mode) = asked_text t count n (name, mode)
event_text t count n s (event.SpaceLook clusters number lbn) = block_text (codes "read ") lbn (codes " for space")
event_text t count n s (event.SpaceUse clusters number lbn) = block_text (codes "hit ") lbn (codes " for space")
event_text t count n s (event.SpaceWrite v) = block_text (codes "write ") v.lbn (purpose_text s.run.phase)
event_text t count n s event.LowerV = codes "stock filled, V to NL"
event_text t count n s event.LowerX = codes "too little found, V and X to NL"
event_text t count n s event.Return = codes "stock given back, V to NL, X back"
event_text t count n s event.SpaceEnd = []
event_text t count n s (event.Plan p) = block_text (codes "plan of ") (length p.writes) (codes " writes")
event_text t count n s (event.Write v) = block_text (codes "write ") v.lbn (codes ", stage " ++ stage_text v.stage)
event_text t count n s (event.Ask x a) = if is_some s.cmd then codes "ask " ++ (lock_text (A a.file, a.mode) ++ codes " granted") else answer_text x a.refused s.kept
event_text t count n s (event.Answer x r) = answer_text x r s.kept

-- ---- lines

-- what a line begins with: the number of the step, the node, and the number of its turn or `-`
unfoldable pub head_text : ℕ → ℕ → List ℕ → List ℕ
head_text k n turn = decimal k ++ (codes " N" ++ (decimal n ++ (codes " " ++ (turn ++ codes " "))))

-- A line: that, and what happened. Where nothing did there is none.
unfoldable pub line_text : ℕ → ℕ → List ℕ → List ℕ → List ℕ
line_text k n turn [] = []
line_text k n turn (b ∷ bs) = head_text k n turn ++ ((b ∷ bs) ++ newline)
