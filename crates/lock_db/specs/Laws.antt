-- The rules of the lock manager, told of a table and of what a call makes of it.
use Rattle.std.specs.Prelude.{◌≡◌, ◌≢◌, ◌==◌, ◌&&◌, not, ℕ, Bool, true, false, List, Option, Some, None, Contains, filter, replicate, length, IsTrue, IsSome, MatchBool, if◌then◌else◌, ◌⊎◌}
use Rattle.std.specs.List.{list_any}
use Rattle.plain_cat.specs.declared.mode.Mode.{Mode}
use Rattle.plain_cat.specs.declared.mode.Mode.TheVariants.{CW, PR}
use Rattle.plain_cat.specs.Modes.{compatible_modes}
use Rattle.lock_db.specs.declared.name.LockName.{LockName}
use Rattle.lock_db.specs.declared.name.Owner.{Owner}
use Rattle.lock_db.specs.declared.askers.Standing.{Standing}
use Rattle.lock_db.specs.declared.askers.Standing.TheVariants.{Granted, Converting}
use Rattle.lock_db.specs.declared.askers.Asker.{Asker}
use Rattle.lock_db.specs.declared.resource.Resource.{Resource}
use Rattle.lock_db.specs.Queues.{is_queued, standing_of, settled, held, wanted, is_waiting, goes_beside, without, without_node, lock_of, is_writing}
use Rattle.lock_db.specs.Resources.{first_standing, goes_at_once, is_writer_of, conversion_writes, mode_held}
use Rattle.lock_db.specs.Tables.{resource_at, asked, tried, converted, try_converted, released, dropped, recovered, converts_now, all_together, IsTable}

-- any two granted locks of different owners are compatible
abbrev pub GoTogether : List Asker → Type 0
GoTogether xs =
    (a b : Asker) (m n : Mode) → Contains xs a → Contains xs b → a.owner ≢ b.owner
    → held a.standing ≡ Some m → held b.standing ≡ Some n → IsTrue (compatible_modes m n)

-- an owner has one lock or request at most
abbrev pub StandsOnce : List Asker → Type 0
StandsOnce xs = (a b : Asker) → Contains xs a → Contains xs b → a.owner ≡ b.owner → a ≡ b

-- another owner has a lock that does not go with what this asker wants
abbrev pub IsHeldUp : List Asker → Asker → Type 0
IsHeldUp xs a = (b : Asker) × Contains xs b × (b.owner ≢ a.owner) × (goes_beside (wanted a.standing) (held b.standing) ≡ false)

-- the waiting queue, in order
abbrev pub waiting_queue : List Asker → List Asker
waiting_queue xs = filter is_waiting xs

-- the value block and its mark stay
pub record BlockStays (before after : Resource) : Type 0 where
  pub bytes : after.value ≡ before.value
  pub mark : after.valid ≡ before.valid

-- the value block has these bytes, and is valid or not
pub record BlockIs (bytes : List ℕ) (mark : Bool) (after : Resource) : Type 0 where
  pub bytes_are : after.value ≡ bytes
  pub mark_is : after.valid ≡ mark

-- somebody has a lock or a request
abbrev pub somebody : List Asker → Bool
somebody xs = not (length xs == 0)

-- a request changes no value block
abbrev pub RequestsKeepTheBlock : Type 0
RequestsKeepTheBlock =
    (name : LockName) (owner : Owner) (mode : Mode) (t : List Resource)
    → BlockStays (resource_at name t) (resource_at name (asked name owner mode t))
    × BlockStays (resource_at name t) (resource_at name (tried name owner mode t))

-- a conversion that does not wait changes none either, since it is upward
abbrev pub TriesKeepTheBlock : Type 0
TriesKeepTheBlock =
    (name : LockName) (owner : Owner) (mode : Mode) (t : List Resource) → IsSome (lock_of owner (resource_at name t).askers)
    → BlockStays (resource_at name t) (resource_at name (try_converted name owner mode t))

-- a level or downward conversion from PW or EX writes the block, and no other does
abbrev pub ConversionsWriteTheBlock : Type 0
ConversionsWriteTheBlock =
    (name : LockName) (owner : Owner) (mode : Mode) (value : List ℕ) (t : List Resource) → IsSome (lock_of owner (resource_at name t).askers)
    → MatchBool (conversion_writes (mode_held owner (resource_at name t)) mode)
    (BlockIs value true (resource_at name (converted name owner mode value t)))
    (BlockStays (resource_at name t) (resource_at name (converted name owner mode value t)))

-- a release from PW or EX writes it, and no other does; with the last lock and request the block goes
abbrev pub ReleasesWriteTheBlock : Type 0
ReleasesWriteTheBlock =
    (name : LockName) (owner : Owner) (value : List ℕ) (t : List Resource)
    → MatchBool (somebody (without owner (resource_at name t).askers))
    (MatchBool (is_writing (mode_held owner (resource_at name t)))
    (BlockIs value true (resource_at name (released name owner value t)))
    (BlockStays (resource_at name t) (resource_at name (released name owner value t))))
    (BlockIs (replicate 16 0) true (resource_at name (released name owner value t)))

-- a death leaves the bytes, and the mark where the node held no lock in PW or EX
abbrev pub DeathsClearTheMark : Type 0
DeathsClearTheMark =
    (name : LockName) (node : ℕ) (t : List Resource) → IsTable t
    → MatchBool (somebody (without_node node (resource_at name t).askers))
    (BlockIs (resource_at name t).value ((resource_at name t).valid && not (list_any (is_writer_of node) (resource_at name t).askers)) (resource_at name (dropped node t)))
    (BlockIs (replicate 16 0) true (resource_at name (dropped node t)))

-- a recovery writes the block and its mark, and leaves the locks and requests
abbrev pub RecoveriesWriteTheBlock : Type 0
RecoveriesWriteTheBlock =
    (name : LockName) (value : List ℕ) (valid : Bool) (t : List Resource) → IsTrue (somebody (resource_at name t).askers)
    → BlockIs value valid (resource_at name (recovered name value valid t))
    × ((resource_at name (recovered name value valid t)).askers ≡ (resource_at name t).askers)

-- a call on one name leaves the resource of every other name as it is
abbrev pub LeavesOthers : LockName → List Resource → List Resource → Type 0
LeavesOthers name old new = (other : LockName) → other ≢ name → resource_at other new ≡ resource_at other old

-- a death leaves the resources at which the node has no lock or request
abbrev pub DeathLeavesOthers : Type 0
DeathLeavesOthers =
    (name : LockName) (node : ℕ) (t : List Resource) → IsTable t → list_any (λ (a : Asker). a.owner.node == node) (resource_at name t).askers ≡ false
    → resource_at name (dropped node t) ≡ resource_at name t

-- how an owner stands at a name
abbrev pub stands_at : LockName → Owner → List Resource → Option Standing
stands_at name owner t = standing_of owner (resource_at name t).askers

-- after a request its owner has the lock, or waits for it, as the answer says
abbrev pub RequestsStand : Type 0
RequestsStand =
    (name : LockName) (owner : Owner) (mode : Mode) (t : List Resource) → stands_at name owner t ≡ None
    → stands_at name owner (asked name owner mode t) ≡ Some (first_standing (goes_at_once owner mode (resource_at name t).askers) mode)

-- after a conversion its owner has the lock in the new mode, or in the old one and waits, as the answer says
abbrev pub ConversionsStand : Type 0
ConversionsStand =
    (name : LockName) (owner : Owner) (old mode : Mode) (value : List ℕ) (t : List Resource) → IsTable t → lock_of owner (resource_at name t).askers ≡ Some old → (old ≡ PR → mode ≢ CW)
    → stands_at name owner (converted name owner mode value t) ≡ Some (if converts_now name owner mode t then Granted mode else Converting old mode)

-- after a release its owner has nothing there
abbrev pub ReleasesLeaveNothing : Type 0
ReleasesLeaveNothing =
    (name : LockName) (owner : Owner) (value : List ℕ) (t : List Resource) → stands_at name owner (released name owner value t) ≡ None

-- after its death a node has nothing anywhere
abbrev pub DeathsLeaveNothing : Type 0
DeathsLeaveNothing =
    (name : LockName) (owner : Owner) (t : List Resource) → IsTable t → stands_at name owner (dropped owner.node t) ≡ None

-- who waits may be granted what it wants, and everybody else stands as before
abbrev pub GrantsServeTheWaiting : Type 0
GrantsServeTheWaiting =
    (xs : List Asker) (owner : Owner) (s : Standing) → IsTrue (all_together xs) → standing_of owner xs ≡ Some s
    → (standing_of owner (settled xs) ≡ Some s) ⊎ (IsTrue (is_queued s) × (standing_of owner (settled xs) ≡ Some (Granted (wanted s))))
