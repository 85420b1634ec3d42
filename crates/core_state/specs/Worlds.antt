-- A world as plain data: a drive, a lock table, a history, and the nodes that run the script.
use Rattle.std.specs.Prelude.{◌≤◌, ℕ, zero, suc, Bool, List, [], ◌∷◌, Option, Some, None, length, map, option_map, slice_get, slice_set}
use Rattle.base_words.specs.Fields.{Block}
use Rattle.lock_db.specs.declared.name.LockName.{LockName}
use Rattle.node_cache.specs.Cached.{Cached}
use Rattle.lock_db.specs.declared.resource.Resource.{Resource}
use Rattle.plain_cat.specs.declared.mode.Mode.{Mode}
use Rattle.plain_cat.specs.declared.command.Cmd.{Cmd}
use Rattle.plain_cat.specs.declared.history.Entry.{Entry}
use Rattle.plain_cat.specs.declared.history.Entry.TheVariants.{Died}
use Rattle.plain_cat.specs.declared.script.Script.{Script}
use Rattle.plain_cat.specs.declared.cat.Cat.{Cat}
use Rattle.plain_rules.specs.Own.{NodePast, next_command}
use Rattle.vol_parts.specs.declared.geometry.Geometry.{Geometry}
use Rattle.op_law.specs.declared.need.Plan.{Plan}
use Rattle.op_law.specs.declared.seen.Seen.{Seen}
use Rattle.op_law.specs.declared.seen.Chan.{Chan}
use Rattle.core_space.specs.declared.run.SpaceRun.{SpaceRun}
use Rattle.core_state.specs.declared.node.Node.{Node}
use Rattle.node_locks.specs.Held.{Row}
use Rattle.core_state.specs.declared.cluster.Core.{Core}

-- free clusters and file numbers that a node keeps for its commands
pub record Stock : Type 0 where
  pub clusters : List ℕ
  pub numbers : List ℕ

abbrev pub empty_stock : Stock
empty_stock = record { clusters = []; numbers = [] }

-- a node
pub record NodeState : Type 0 where
  -- what it has of its answers so far
  pub past : NodePast
  -- its command under way, what it has seen for it, what it has decided on, how many of the writes are done, and whether the ask
  -- of its plan was granted
  pub cmd : Option Cmd
  pub seen : Seen
  pub plan : Option Plan
  pub done : ℕ
  pub tried : Bool
  -- the locks that its file system has asked for, in order: those of the command, and that of its ask, where that is by the file system
  pub asked : List (LockName × Mode)
  -- the lock of the stocks, X, once it is held, and locks in NL
  pub kept : List (LockName × Mode)
  -- the lock that its rules for space have asked for last: X, or V
  pub claims : List (LockName × Mode)
  -- what its eight channels have open
  pub opens : List (Option Chan)
  -- what it has done by its rules for space
  pub run : SpaceRun
  -- its stock, and the blocks that it keeps in its cache, the one that was used last in front
  pub stock : Stock
  pub cache : List Cached
  -- it has left the volume
  pub over : Bool
  -- how many turns it has made, and how many blocks it has written, read from the drive, and found cached
  pub turns : ℕ
  pub writes : ℕ
  pub reads : ℕ
  pub hits : ℕ

-- what a command has come to: what it has seen, what it has decided on, how many of the writes are done, whether its ask was granted,
-- and the locks that were asked for
pub record Course : Type 0 where
  pub seen : Seen
  pub plan : Option Plan
  pub done : ℕ
  pub tried : Bool
  pub asked : List (LockName × Mode)

abbrev pub course_of : NodeState → Course
course_of s = record { seen = s.seen; plan = s.plan; done = s.done; tried = s.tried; asked = s.asked }

-- a world
pub record Plain : Type 0 where
  pub script : Script
  -- the catalogue that the volume told as it was mounted
  pub opening : Cat
  pub geometry : Geometry
  -- the drive
  pub blocks : List Block
  -- the lock table
  pub locks : List Resource
  -- the nodes, in order from node 1
  pub nodes : List NodeState
  pub history : List Entry

-- a world, the image below its drive, and for how many entries its history has room
pub record Held (I : Type 0) : Type 0 where
  pub world : Plain
  pub image : I
  pub room : ℕ

-- ---- what the fields of a world hold

abbrev pub state_of : {O : Type 0} → (O → Cmd) → Node O → NodeState
state_of cmd_is n = record {
  past = n.past;
  cmd = option_map cmd_is n.op;
  seen = n.seen;
  plan = n.plan;
  done = n.done;
  tried = n.tried;
  asked = n.asked;
  kept = n.kept;
  claims = n.claims;
  opens = n.opens;
  run = n.run;
  stock = record { clusters = n.stock.clusters; numbers = n.stock.numbers };
  cache = n.cache;
  over = n.over;
  turns = n.turns;
  writes = n.writes;
  reads = n.reads;
  hits = n.hits;
}

-- an entry as it is told: how much room its list has is no matter
abbrev pub shown : Entry → Entry
shown (Died n stage clusters numbers) = Died n stage clusters (record { items = numbers.items; room = 0 })
shown other = other

abbrev pub plain_of : {I O : Type 0} → (O → Cmd) → Core I O → Plain
plain_of cmd_is w = record {
  script = w.script;
  opening = w.opening;
  geometry = w.geometry;
  blocks = w.mirror.blocks;
  locks = w.locks;
  nodes = map (state_of cmd_is) w.nodes.items;
  history = map shown w.history.items;
}

-- ---- the nodes of a world

-- a node of the world
pub record IsOfWorld (w : Plain) (n : ℕ) : Type 0 where
  pub from : 1 ≤ n
  pub to : n ≤ length w.nodes

-- the node of a number, which counts from 1
abbrev pub node_at : List NodeState → ℕ → Option NodeState
node_at nodes zero = None
node_at nodes (suc k) = slice_get nodes k

-- node n is now s
abbrev pub set_node : List NodeState → ℕ → NodeState → List NodeState
set_node nodes zero s = nodes
set_node nodes (suc k) s = slice_set nodes k s

abbrev pub with_node : Plain → ℕ → NodeState → Plain
with_node w n s = record w { nodes = set_node w.nodes n s }

-- the rows of locks that a node has asked for: those that it keeps, those of its command, and that of its rules for space
abbrev pub rows_of : NodeState → List Row
rows_of s = s.kept ∷ (s.asked ∷ (s.claims ∷ []))

abbrev pub rows_in : Option NodeState → List Row
rows_in None = []
rows_in (Some s) = rows_of s

-- those of each node
abbrev pub rows_at : List NodeState → ℕ → List Row
rows_at nodes n = rows_in (node_at nodes n)

-- the command that a node goes on with, or begins
abbrev pub or_next : Option Cmd → Option Cmd → Option Cmd
or_next (Some x) next = Some x
or_next None next = next

abbrev pub current : Plain → ℕ → NodeState → Option Cmd
current w n s = or_next s.cmd (next_command w.script n w.history)
