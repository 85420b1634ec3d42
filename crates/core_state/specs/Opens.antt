-- The locks of who has a file open, by the catalogue and by the asks that were granted.
use Rattle.std.specs.Prelude.{◌≡◌, ◌≤◌, ◌==◌, ◌&&◌, nat_le, ℕ, Bool, List, Option, Some, None, if◌then◌else◌}
use Rattle.lock_db.specs.declared.name.LockName.{LockName}
use Rattle.lock_db.specs.declared.name.LockName.TheVariants.{A}
use Rattle.lock_db.specs.declared.name.Owner.{Owner}
use Rattle.lock_db.specs.declared.askers.Standing.{Standing}
use Rattle.lock_db.specs.declared.askers.Standing.TheVariants.{Granted}
use Rattle.lock_db.specs.declared.resource.Resource.{Resource}
use Rattle.lock_db.specs.Names.{is_same}
use Rattle.lock_db.specs.Laws.{stands_at}
use Rattle.plain_cat.specs.declared.cat.Cat.{Cat}
use Rattle.plain_cat.specs.declared.cat.Open.{Open}
use Rattle.plain_rules.specs.Lookups.{channel_at}
use Rattle.op_law.specs.declared.need.Ask.{Ask}
use Rattle.core_state.specs.Worlds.{NodeState, node_at}
use Rattle.core_state.specs.Asks.{granted_ask}

-- a channel of a node: one of its parts 1 to 8
abbrev pub is_channel : Owner → Bool
is_channel owner = nat_le 1 owner.node && (nat_le 1 owner.part && nat_le owner.part 8)

-- what an owner of locks has open by the catalogue
abbrev pub open_of : Cat → Owner → Option Open
open_of c owner = if is_channel owner then channel_at c owner.node owner.part else None

-- the open that an ask is for
abbrev pub open_asked : Ask → Open
open_asked a = record { file = a.file; mode = a.mode }

-- what a part of a node has open, where an ask of the node was granted: that of the ask where it is by this part, and else this
abbrev pub open_with : ℕ → Option Ask → Option Open → Option Open
open_with part None o = o
open_with part (Some a) o = if a.chan == part then Some (open_asked a) else o

-- the ask of a node that was granted
abbrev pub asked_in : Option NodeState → Option Ask
asked_in None = None
asked_in (Some s) = granted_ask s.tried s.plan

abbrev pub asked_at : List NodeState → ℕ → Option Ask
asked_at nodes n = asked_in (node_at nodes n)

-- What an owner of locks has open, while commands are under way: an OPEN whose ask was granted has its channel's file open in its
-- mode, and a CLOSE has it in EX. All others have open what the catalogue says.
abbrev pub open_now : Cat → List NodeState → Owner → Option Open
open_now c nodes owner = open_with owner.part (asked_at nodes owner.node) (open_of c owner)

-- how an owner with this open stands at a name: it has the lock of who has that file open, in the open's mode, and no other
abbrev pub open_stands : LockName → Option Open → Option Standing
open_stands name None = None
open_stands name (Some o) = if is_same name (A o.file) then Some (Granted o.mode) else None

-- Besides the locks of the nodes' file systems the lock table has those of what its owners have open, and no others.
abbrev pub AreOpensLocked : List Resource → (Owner → Option Open) → Type 0
AreOpensLocked t having = (name : LockName) (owner : Owner) → 1 ≤ owner.part → stands_at name owner t ≡ open_stands name (having owner)
