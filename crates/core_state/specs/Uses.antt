-- The cached block that a turn uses.
use Rattle.std.specs.Prelude.{◌≡◌, ℕ, Option, Some, None, slice_get}
use Rattle.lock_db.specs.declared.name.LockName.{LockName}
use Rattle.lock_db.specs.declared.name.LockName.TheVariants.{V}
use Rattle.core_state.specs.Worlds.{NodeState, Plain, node_at}
use Rattle.core_state.specs.Event.{Event}
use Rattle.core_state.specs.Event as event
use Rattle.core_state.specs.Events.{block_used, readied, next_event}

-- the block that an event uses from the node's cache, and the lock under which it is cached: by the command, or by the rules for
-- space, under V
abbrev pub used_in : Event → Option (LockName × ℕ)
used_in (event.Use name lbn) = Some (name, lbn)
used_in (event.SpaceUse clusters number lbn) = Some (V, lbn)
used_in other = None

-- what node n has cached of a block, under a lock, is what the drive has there
abbrev pub IsDrives : Plain → ℕ → LockName × ℕ → Type 0
IsDrives w n u = (s : NodeState) → node_at w.nodes n ≡ Some s → slice_get w.blocks u.1 ≡ Some (block_used w s u.0 u.1)

-- A block that node n uses from its cache in its next turn is the drive's.
abbrev pub UsesTheDrives : Plain → ℕ → Type 0
UsesTheDrives w n = (u : LockName × ℕ) → used_in (next_event w n) ≡ Some u → IsDrives (readied w n) n u
