-- What an event by the rules for space asks for.
use Rattle.std.specs.Prelude.{◌≡◌, ◌⊎◌, ◌≤◌, ◌<◌, not, ℕ, Bool, [], ◌∷◌, Some, IsSome, length, slice_get}
use Rattle.base_words.specs.Fields.{Block}
use Rattle.lock_db.specs.declared.name.LockName.{LockName}
use Rattle.lock_db.specs.declared.name.LockName.TheVariants.{X, V}
use Rattle.lock_db.specs.Queues.{lock_of}
use Rattle.lock_db.specs.Tables.{resource_at}
use Rattle.plain_cat.specs.declared.mode.Mode.{Mode}
use Rattle.plain_cat.specs.declared.mode.Mode.TheVariants.{PW}
use Rattle.node_locks.specs.Held.{system_of, waits_at}
use Rattle.node_locks.specs.Taking.{taken, taken_now, MayTake}
use Rattle.vol_parts.specs.Parts.{IsGeometry}
use Rattle.op_law.specs.declared.need.PlanWrite.{PlanWrite}
use Rattle.core_space.specs.declared.run.Phase.{Phase}
use Rattle.core_state.specs.Worlds.{NodeState, Plain}
use Rattle.core_state.specs.Event.{Event}
use Rattle.core_state.specs.Event as event
use Rattle.core_step.specs.Spaces.{CanTake}

-- a lock may be claimed, and stands in a queue where it is not granted at once
pub record IsClaimable (w : Plain) (n : ℕ) (name : LockName) (mode : Mode) : Type 0 where
  pub may : MayTake name (system_of n) w.locks
  pub waits : waits_at (taken name (system_of n) mode w.locks) n ((name, mode) ∷ []) ≡ not (taken_now name (system_of n) mode w.locks)

-- a write comes next, of a block of the volume, and what it takes can be taken over
pub record IsNextWrite (w : Plain) (s : NodeState) (v : PlanWrite) : Type 0 where
  pub next : slice_get s.run.writes s.run.made ≡ Some v
  pub within : v.lbn < length w.blocks
  pub can : CanTake s v

-- the next write is to this block, and this is what it makes of it
pub record IsPut (s : NodeState) (lbn : ℕ) (b : Block) : Type 0 where
  pub write : PlanWrite
  pub next : slice_get s.run.writes s.run.made ≡ Some write
  pub to : write.lbn ≡ lbn
  pub block : write.block ≡ b

-- node n, which stands as s, can make this event
pub record CanMove (w : Plain) (n : ℕ) (s : NodeState) (e : Event) : Type 0 where
  pub kept : length s.kept < 127
  pub claims : length s.claims ≤ 1
  pub geometry : IsGeometry s.seen.geometry
  pub volume : IsGeometry w.geometry
  pub claim : (p : Phase) (name : LockName) (mode : Mode) → e ≡ event.Claim p name mode → IsClaimable w n name mode
  pub look : (clusters : ℕ) (number : Bool) (lbn : ℕ) → e ≡ event.SpaceLook clusters number lbn → lbn < length w.blocks
  pub write : (v : PlanWrite) → e ≡ event.SpaceWrite v → IsNextWrite w s v
  pub bitmaps : (e ≡ event.LowerV) ⊎ ((e ≡ event.LowerX) ⊎ (e ≡ event.Return)) → lock_of (system_of n) (resource_at V w.locks).askers ≡ Some PW
  pub stocks : (e ≡ event.LowerX) ⊎ (e ≡ event.Return) → IsSome (lock_of (system_of n) (resource_at X w.locks).askers)
