-- What a call makes of the node that sends it and of its master.
use Rattle.std.specs.Prelude.{◌&&◌, ◌||◌, not, nat_lt, ℕ, ◌+◌, ◌-◌, Bool, true, false, List, [], ◌∷◌, ◌++◌, Option, Some, None, filter, map, if◌then◌else◌, replicate, is_some, set}
use Rattle.std.specs.List.{list_any}
use Rattle.plain_cat.specs.declared.mode.Mode.{Mode}
use Rattle.lock_db.specs.declared.name.LockName.{LockName}
use Rattle.lock_db.specs.declared.name.Owner.{Owner}
use Rattle.lock_db.specs.declared.askers.Standing.{Standing}
use Rattle.lock_db.specs.declared.askers.Standing.TheVariants.{Granted}
use Rattle.lock_db.specs.declared.resource.Resource.{Resource}
use Rattle.lock_db.specs.Names.{is_same, is_before}
use Rattle.lock_db.specs.Queues.{queues, mode_of, standing_of}
use Rattle.lock_db.specs.Tables.{resource_at, asked, converted, released}
use Rattle.dlm_core.specs.declared.messages.Letter.{Letter}
use Rattle.dlm_core.specs.declared.messages.Letter.TheVariants.{Ask, Drop, Grant, Claim}
use Rattle.dlm_core.specs.declared.messages.Message.{Message}
use Rattle.dlm_core.specs.declared.holds.Hold.{Hold}
use Rattle.dlm_core.specs.declared.blocks.Block.{Block}
use Rattle.dlm_core.specs.declared.blocks.Version.{Version}
use Rattle.dlm_core.specs.declared.blocks.Seen.{Seen}
use Rattle.dlm_core.specs.declared.rules.BlockRule.{BlockRule}
use Rattle.dlm_core.specs.declared.rules.BlockRule.TheVariants.{OfHolders, OfAll}
use Rattle.dlm_core.specs.declared.queue.Waiter.{Waiter}
use Rattle.dlm_core.specs.declared.events.Told.{Told}
use Rattle.dlm_core.specs.declared.events.Told.TheVariants as told
use Rattle.dlm_core.specs.Modes.{lowers, crosses, writes}
use Rattle.dlm_core.specs.States.{State, home, master, table_at, told_at, put_before, in_turn, hold_at, noted, asked_hold, block_at, noted_block, version_at, noted_version}

-- a lock of which no conversion is queued, or none
abbrev pub stands_as : Option Mode → Option Standing
stands_as None = None
stands_as (Some m) = Some (Granted m)

-- a grant
abbrev pub is_grant : Letter → Bool
is_grant (Ask mode) = false
is_grant Drop = false
is_grant (Grant mode valid) = true
is_grant (Claim node) = false

-- an ask or a drop
abbrev pub is_call : Letter → Bool
is_call (Ask mode) = true
is_call Drop = true
is_call (Grant mode valid) = false
is_call (Claim node) = false

-- The version of what a node writes: one more than that of the value block that it last read or wrote. There are 2 to the power
-- of 64 versions, and the last one stays.
abbrev pub next_version : ℕ → ℕ
next_version v = if nat_lt v 18446744073709551615 then v + 1 else v

-- the version of what the writer of a name has read or written last: the owner, or by the rule of all its node
abbrev pub last_version : BlockRule → Owner → LockName → State → ℕ
last_version OfHolders owner name s = (hold_at owner name s.holds).seen.version
last_version OfAll owner name s = (block_at owner.node name s.blocks).version

-- the version that a call carries: 0, where it does not write
abbrev pub version_of : Owner → LockName → Option Mode → Letter → State → ℕ
version_of owner name old letter s =
    if writes old letter then next_version (last_version s.rule owner name s) else 0

-- a message to the master of a name, from an owner that believes this lock
abbrev pub call_to : Owner → LockName → Option Mode → Letter → ℕ → State → Message
call_to owner name old letter fill s = record {
  from = owner.node;
  to = master name s;
  owner = owner;
  name = name;
  letter = letter;
  value = replicate 16 fill;
  version = version_of owner name old letter s;
}

-- what the node has last read or written then
abbrev pub blocks_after : Owner → LockName → Option Mode → Letter → ℕ → State → List Block
blocks_after owner name old letter fill s =
    if writes old letter
    then noted_block (record { node = owner.node; name = name; value = replicate 16 fill; version = version_of owner name old letter s }) s.blocks
    else s.blocks

-- what an owner has seen once it has sent a message: what it writes, where it does
abbrev pub seen_after : Option Mode → Hold → Message → Seen
seen_after old h m = if writes old m.letter then record { value = m.value; valid = true; version = m.version } else h.seen

-- what an owner believes is noted, and its message is sent
abbrev pub called : Option Mode → Hold → Letter → ℕ → State → State
called old h letter fill s = record s {
  mail = s.mail ++ (call_to h.owner h.name old letter fill s ∷ []);
  holds = noted (record h { seen = seen_after old h (call_to h.owner h.name old letter fill s) }) s.holds;
  blocks = blocks_after h.owner h.name old letter fill s;
}

-- An owner asks. While it waits it may not. A lowering is believed at once, and anything else is waited for.
abbrev pub ask_told : Hold → Mode → Told
ask_told h mode = if is_some h.wait then told.Busy else if crosses h.belief mode then told.BadConvert else told.Done

abbrev pub ask_after : Hold → Mode → ℕ → State → State
ask_after h mode fill s =
    if is_some h.wait then s else if crosses h.belief mode then s else called h.belief (asked_hold h mode) (Ask mode) fill s

-- an owner gives up its lock: it believes at once that it has none
abbrev pub drop_told : Hold → Told
drop_told h = if is_some h.wait then told.Busy else if is_some h.belief then told.Done else told.NotHeld

abbrev pub drop_after : Hold → ℕ → State → State
drop_after h fill s =
    if is_some h.wait then s else if is_some h.belief then called h.belief (record h { belief = None }) Drop fill s else s

-- an ask that waits at its master is not queued any more
abbrev pub is_served : State → Waiter → Bool
is_served s w = not (queues w.owner (told_at w.name s).askers)

-- the message of a grant, with the value block, its mark and its version
abbrev pub grant_of : State → Waiter → Message
grant_of s w = record {
  from = master w.name s;
  to = w.owner.node;
  owner = w.owner;
  name = w.name;
  letter = Grant w.mode (told_at w.name s).valid;
  value = (told_at w.name s).value;
  version = version_at w.name s.versions;
}

-- grants to those that do not wait any more, in order of the queue
abbrev pub grants_of : State → List Waiter → List Message
grants_of s q = map (grant_of s) (filter (is_served s) q)

-- the tables have changed: the grants are sent
abbrev pub served : State → State
served s = record s { mail = s.mail ++ grants_of s s.queue; queue = filter (λ w. not (is_served s w)) s.queue }

-- who stands in front of others: whose name comes first, and on one name a conversion in front of a request
abbrev pub goes_before : Waiter → Waiter → Bool
goes_before a b = is_before a.name b.name || (is_same a.name b.name && (a.converts && not b.converts))

-- An ask that is taken: a conversion where the owner has a lock, else a request. It is taken only where the owner does not wait, and
-- a conversion only where it is not between CW and PR. Whoever asks for more than it has waits until it is granted.
abbrev pub ask_fits : Owner → LockName → Option Mode → Mode → List Resource → Bool
ask_fits owner name old mode t = not (queues owner (resource_at name t).askers) && not (crosses old mode)

abbrev pub ask_made : Message → Option Mode → Mode → List Resource → List Resource
ask_made m old mode t =
    if ask_fits m.owner m.name old mode t
    then (if is_some old then converted m.name m.owner mode m.value t else asked m.name m.owner mode t)
    else t

abbrev pub put_last : Message → Option Mode → Mode → List Waiter → List Waiter
put_last m old mode q =
    if lowers old mode then q else put_before (goes_before (record { owner = m.owner; name = m.name; mode = mode; converts = is_some old })) (record { owner = m.owner; name = m.name; mode = mode; converts = is_some old }) q

-- a drop that is taken: a release, where the owner has a lock of which no conversion is queued
abbrev pub drop_made : Message → Option Mode → List Resource → List Resource
drop_made m old t =
    if not (queues m.owner (resource_at m.name t).askers) && is_some old then released m.name m.owner m.value t else t

-- somebody whose belief on a name is noted has a lock or a request at its master
abbrev pub stands_there : LockName → List Resource → Hold → Bool
stands_there name t h = is_same h.name name && is_some (standing_of h.owner (resource_at name t).askers)

-- The version of a name's value block after a call: that of the message, where it writes, and none, where the name is new.
abbrev pub versions_after : Message → Option Mode → List Resource → List Hold → List Version → List Version
versions_after m old t hs vs =
    if writes old m.letter then noted_version m.name m.version vs
    else if list_any (stands_there m.name t) hs then vs
    else noted_version m.name 0 vs

-- the table of a home becomes another
abbrev pub with_table : LockName → List Resource → State → State
with_table name t s = record s { tables = set s.tables (home s.nodes name - 1) t }

-- the master of a name takes an ask or a drop
abbrev pub taken_from : Message → Letter → Option Mode → List Resource → State → State
taken_from m (Ask mode) old t s =
    served (with_table m.name (ask_made m old mode t) (record s { queue = put_last m old mode s.queue; versions = versions_after m old t s.holds s.versions }))
taken_from m Drop old t s =
    served (with_table m.name (drop_made m old t) (record s { versions = versions_after m old t s.holds s.versions }))
taken_from m (Grant mode valid) old t s = s
taken_from m (Claim node) old t s = s

abbrev pub taken : Message → State → State
taken m s = taken_from m m.letter (mode_of m.owner (told_at m.name s).askers) (table_at (home s.nodes m.name) s.tables) s

-- it takes several, one after the other
abbrev pub taken_all : List Message → State → State
taken_all ms s = in_turn taken ms s

-- an owner gets a grant
abbrev pub granted : Message → Mode → Bool → State → State
granted m mode valid s = record s {
  holds = noted (record { owner = m.owner; name = m.name; belief = Some mode; wait = None; seen = record { value = m.value; valid = valid; version = m.version } }) s.holds;
  blocks = noted_block (record { node = m.owner.node; name = m.name; value = m.value; version = m.version }) s.blocks;
}
