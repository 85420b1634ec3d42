-- What is asked for: locks, and the ask of a plan, with what a command writes, holds and knows by it.
use Rattle.std.specs.Prelude.{◌==◌, ◌&&◌, ◌++◌, take, ℕ, Bool, true, false, List, [], ◌∷◌, Option, Some, None, if◌then◌else◌}
use Rattle.std.specs.List.{list_any}
use Rattle.lock_db.specs.Names.{is_same}
use Rattle.lock_db.specs.declared.name.LockName.{LockName}
use Rattle.lock_db.specs.declared.name.Owner.{Owner}
use Rattle.lock_db.specs.declared.name.LockName.TheVariants.{A}
use Rattle.plain_cat.specs.declared.mode.Mode.{Mode}
use Rattle.plain_cat.specs.declared.command.Cmd.{Cmd}
use Rattle.plain_cat.specs.declared.reply.Reply.{Reply}
use Rattle.plain_cat.specs.declared.cat.Cat.{Cat}
use Rattle.op_law.specs.declared.need.Ask.{Ask}
use Rattle.op_law.specs.declared.need.Plan.{Plan}
use Rattle.op_law.specs.declared.need.PlanWrite.{PlanWrite}
use Rattle.op_law.specs.declared.seen.Seen.{Seen}
use Rattle.op_law.specs.Knows.{knows, is_granted}

-- a lock of this name is asked for
abbrev pub has_asked : LockName → List (LockName × Mode) → Bool
has_asked name locks = list_any (λ l. is_same l.0 name) locks

-- the rules for space have asked for a lock
abbrev pub is_claiming : List (LockName × Mode) → Bool
is_claiming [] = false
is_claiming (l ∷ ls) = true

-- the writes of a plan that come before its ask, or all of them where it has none or it was granted
abbrev pub writes_by : Option Ask → Bool → List PlanWrite → List PlanWrite
writes_by None tried ws = ws
writes_by (Some a) true ws = ws
writes_by (Some a) false ws = take a.at ws

abbrev pub writes_now : Bool → Option Plan → List PlanWrite
writes_now tried None = []
writes_now tried (Some p) = writes_by p.ask tried p.writes

-- the reply behind those writes: that of the plan, or that of its ask where it was not granted
abbrev pub reply_by : Option Ask → Bool → Reply → Reply
reply_by None tried r = r
reply_by (Some a) true r = r
reply_by (Some a) false r = a.refused

-- an ask, where it was granted
abbrev pub granted_by : Bool → Option Ask → Option Ask
granted_by true ask = ask
granted_by false ask = None

-- the ask of a plan, where it was granted
abbrev pub granted_ask : Bool → Option Plan → Option Ask
granted_ask tried None = None
granted_ask tried (Some p) = granted_by tried p.ask

-- the part of node n that asks: the channel of the ask, or part 0, which is the file system
abbrev pub asker_of : ℕ → Ask → Owner
asker_of n a = record { node = n; part = a.chan }

-- an ask, where it is by the file system
abbrev pub own_of : Option Ask → Option Ask
own_of None = None
own_of (Some a) = if a.chan == 0 then Some a else None

-- the ask of a plan, where it was granted to the file system
abbrev pub own_ask : Bool → Option Plan → Option Ask
own_ask tried plan = own_of (granted_ask tried plan)

-- the lock that an ask is for: that of who has the file open
abbrev pub lock_of_ask : Ask → LockName × Mode
lock_of_ask a = (A a.file, a.mode)

-- these locks, and as the last that of an ask
abbrev pub with_ask : List (LockName × Mode) → Option Ask → List (LockName × Mode)
with_ask locks None = locks
with_ask locks (Some a) = locks ++ lock_of_ask a ∷ []

-- what is known of the catalogue at node n, and besides that its ask was granted
abbrev pub known_with : ℕ → (Cat → Bool) → Option Ask → Cat → Bool
known_with n known None c = known c
known_with n known (Some a) c = known c && is_granted n a c

-- what a command of node n knows of the catalogue, by what it has seen and by the ask of its plan
abbrev pub knows_now : ℕ → Cmd → Seen → Bool → Option Plan → Cat → Bool
knows_now n x seen tried plan c = known_with n (knows n x seen) (granted_ask tried plan) c
