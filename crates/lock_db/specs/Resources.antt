-- One resource, and what each call makes of it.
use Rattle.std.specs.Prelude.{◌==◌, ◌&&◌, ◌||◌, not, ℕ, Bool, true, false, List, [], ◌∷◌, ◌++◌, Option, Some, None, replicate, length, if◌then◌else◌, unwrap_or}
use Rattle.std.specs.List.{list_any}
use Rattle.plain_cat.specs.declared.mode.Mode.{Mode}
use Rattle.plain_cat.specs.declared.mode.Mode.TheVariants.{NL}
use Rattle.lock_db.specs.declared.name.LockName.{LockName}
use Rattle.lock_db.specs.declared.name.Owner.{Owner}
use Rattle.lock_db.specs.declared.askers.Standing.{Standing}
use Rattle.lock_db.specs.declared.askers.Standing.TheVariants.{Granted, Converting, Waiting}
use Rattle.lock_db.specs.declared.askers.Asker.{Asker}
use Rattle.lock_db.specs.declared.resource.Resource.{Resource}
use Rattle.lock_db.specs.declared.resource.Asked.{Asked}
use Rattle.lock_db.specs.declared.resource.Asked.TheVariants as asked_so
use Rattle.lock_db.specs.declared.resource.Tried.{Tried}
use Rattle.lock_db.specs.declared.resource.Tried.TheVariants as tried_so
use Rattle.lock_db.specs.Queues.{is_upward, is_writing, held, is_converting, is_waiting, goes, with_standing, without, without_node, settled, lock_of}

-- a resource that nobody has asked for: zeros, valid
abbrev pub fresh : LockName → Resource
fresh name = record { name = name; askers = []; value = replicate 16 0; valid = true }

-- somebody has a lock or a request there
abbrev pub is_used : Resource → Bool
is_used r = not (length r.askers == 0)

-- a new request is granted at once where both queues are empty and it goes with all granted locks
abbrev pub goes_at_once : Owner → Mode → List Asker → Bool
goes_at_once owner mode xs = not (list_any is_converting xs) && (not (list_any is_waiting xs) && goes owner mode xs)

-- how a new request stands
abbrev pub first_standing : Bool → Mode → Standing
first_standing true mode = Granted mode
first_standing false mode = Waiting mode

-- a new request: a lock, or the last in the waiting queue
abbrev pub asked_of : Owner → Mode → Resource → Resource
asked_of owner mode r =
    record r { askers = r.askers ++ (record { owner = owner; standing = first_standing (goes_at_once owner mode r.askers) mode } ∷ []) }

-- A level or downward conversion is granted at once. An upward one is where no other conversion is queued and it goes
-- with the granted locks of the others.
abbrev pub converts_at_once : Owner → Mode → Mode → List Asker → Bool
converts_at_once owner old new xs =
    not (is_upward old new) || (not (list_any is_converting xs) && goes owner new xs)

-- the resource after its value block is written and its mark set, where that is to be done
abbrev pub written : Bool → List ℕ → Resource → Resource
written true value r = record r { value = value; valid = true }
written false value r = r

-- a level or downward conversion from a writing mode writes the value block
abbrev pub conversion_writes : Mode → Mode → Bool
conversion_writes old new = is_writing old && not (is_upward old new)

-- the lock is granted in the new mode, and then the heads of the queues while they can be
abbrev pub regranted : Owner → Mode → Resource → Resource
regranted owner new r = record r { askers = settled (with_standing owner (Granted new) r.askers) }

-- the conversion is the last in its queue, and the lock keeps its old mode
abbrev pub queued_up : Owner → Mode → Mode → Resource → Resource
queued_up owner old new r =
    record r { askers = without owner r.askers ++ (record { owner = owner; standing = Converting old new } ∷ []) }

-- a conversion from an old mode to a new one
abbrev pub converted_from : Mode → Owner → Mode → List ℕ → Resource → Resource
converted_from old owner new value r =
    if converts_at_once owner old new r.askers
    then written (conversion_writes old new) value (regranted owner new r)
    else queued_up owner old new r

-- the mode of an owner's lock, NL where it has none
abbrev pub mode_held : Owner → Resource → Mode
mode_held owner r = unwrap_or (lock_of owner r.askers) NL

-- a conversion: granted, or the last in the conversion queue
abbrev pub converted_of : Owner → Mode → List ℕ → Resource → Resource
converted_of owner new value r = converted_from (mode_held owner r) owner new value r

-- a conversion that does not wait: granted, or nothing
abbrev pub try_converted_of : Owner → Mode → Resource → Resource
try_converted_of owner new r =
    if converts_at_once owner (mode_held owner r) new r.askers then regranted owner new r else r

-- a release: a lock from a writing mode writes the value block, and then the heads are granted while they can be
abbrev pub released_of : Owner → List ℕ → Resource → Resource
released_of owner value r =
    written (is_writing (mode_held owner r)) value (record r { askers = settled (without owner r.askers) })

-- a lock in a writing mode
abbrev pub is_writing_held : Option Mode → Bool
is_writing_held None = false
is_writing_held (Some m) = is_writing m

-- a lock of this node in a writing mode
abbrev pub is_writer_of : ℕ → Asker → Bool
is_writer_of node a = (a.owner.node == node) && is_writing_held (held a.standing)

-- a node's death: its locks and requests are gone, and with a writing lock the mark; the bytes stay
abbrev pub dropped_of : ℕ → Resource → Resource
dropped_of node r =
    record r { askers = settled (without_node node r.askers); valid = r.valid && not (list_any (is_writer_of node) r.askers) }

-- a recovery: the value block has these bytes and this mark; locks and requests stay
abbrev pub recovered_of : List ℕ → Bool → Resource → Resource
recovered_of value valid r = record r { value = value; valid = valid }

-- the answer to a request or a conversion, by whether it was granted at once
abbrev pub asked_answer : Bool → Asked
asked_answer true = asked_so.Granted
asked_answer false = asked_so.Queued

-- the answer to one that does not wait
abbrev pub tried_answer : Bool → Tried
tried_answer true = tried_so.Granted
tried_answer false = tried_so.NotQueued
