-- Lists of events, and what holds of them.
use Rattle.std.specs.List.{list_any}
use Rattle.std.specs.Prelude.{◌≡◌, ◌≤◌, ◌-◌, ◌++◌, ◌&&◌, ◌⊎◌, not, ℕ, Bool, true, false, List, [], ◌∷◌, Option, Some, None, is_some, Contains, filter, find, set, if◌then◌else◌, option_and_then}
use Rattle.plain_cat.specs.declared.mode.Mode.{Mode}
use Rattle.lock_db.specs.declared.name.LockName.{LockName}
use Rattle.lock_db.specs.declared.name.Owner.{Owner}
use Rattle.lock_db.specs.declared.askers.Standing.{Standing}
use Rattle.lock_db.specs.declared.askers.Standing.TheVariants.{Granted}
use Rattle.lock_db.specs.declared.resource.Resource.{Resource}
use Rattle.lock_db.specs.Queues.{standing_of, lock_of, is_queued, wanted}
use Rattle.lock_db.specs.Resources.{is_writer_of}
use Rattle.lock_db.specs.Tables.{resource_at, asked, converted, released, recovered}
use Rattle.dlm_core.specs.declared.messages.Letter.{Letter}
use Rattle.dlm_core.specs.declared.messages.Letter.TheVariants.{Ask, Drop, Grant, Claim}
use Rattle.dlm_core.specs.declared.messages.Message.{Message}
use Rattle.dlm_core.specs.declared.holds.Hold.{Hold}
use Rattle.dlm_core.specs.declared.blocks.Seen.{Seen}
use Rattle.dlm_core.specs.declared.rules.BlockRule.{BlockRule}
use Rattle.dlm_core.specs.declared.events.Event.{Event}
use Rattle.dlm_core.specs.declared.events.Event.TheVariants as event
use Rattle.dlm_core.specs.declared.events.Told.TheVariants as told
use Rattle.dlm_core.specs.Modes.{is_across}
use Rattle.dlm_core.specs.States.{State, home, recovery, table_at, version_at, is_between, past_first, start}
use Rattle.dlm_core.specs.Steps.{is_call}
use Rattle.dlm_core.specs.Recoveries.{block_for, is_open}
use Rattle.dlm_core.specs.Deaths.{is_lost, was_master, bereft_tables, bereft}
use Rattle.dlm_core.specs.Events.{is_claimed, names_living, after, told_of}
use Rattle.dlm_core.specs.Lanes.{BeliefsGoTogether}

-- the state after a list of events
abbrev pub after_all : State → List Event → State
after_all s [] = s
after_all s (e ∷ es) = after_all (after e s) es

-- the message that an event delivers, if its nodes live
abbrev pub first_of : Event → State → Option Message
first_of (event.Ask owner name mode fill) s = None
first_of (event.Drop owner name fill) s = None
first_of (event.Pass from to) s = find (is_between from to) s.mail
first_of (event.Kill node) s = None

abbrev pub delivered : Event → State → Option Message
delivered e s = if names_living e s then first_of e s else None

-- the messages that were on their way and still are
abbrev pub left_by : Event → State → List Message
left_by (event.Ask owner name mode fill) s = s.mail
left_by (event.Drop owner name fill) s = s.mail
left_by (event.Pass from to) s = past_first (is_between from to) s.mail
left_by (event.Kill node) s = filter (λ m. not (is_lost node m)) s.mail

abbrev pub undelivered : Event → State → List Message
undelivered e s = if names_living e s then left_by e s else s.mail

-- a message that is an ask or a drop, on a name that is not being recovered
abbrev pub only_call : State → Message → Option Message
only_call s m = if is_call m.letter && not (is_some (recovery m.name s)) then Some m else None

-- the ask or the drop that an event delivers, and that its master takes at once
abbrev pub call_in : Event → State → Option Message
call_in e s = option_and_then (only_call s) (delivered e s)

-- a death, or a claim that arrives
abbrev pub is_claim : Letter → Bool
is_claim (Ask mode) = false
is_claim Drop = false
is_claim (Grant mode valid) = false
is_claim (Claim node) = true

abbrev pub brings_claim : Option Message → Bool
brings_claim None = false
brings_claim (Some m) = is_claim m.letter

abbrev pub may_recover : Event → State → Bool
may_recover (event.Ask owner name mode fill) s = false
may_recover (event.Drop owner name fill) s = false
may_recover (event.Pass from to) s = brings_claim (delivered (event.Pass from to) s)
may_recover (event.Kill node) s = names_living (event.Kill node) s

-- What an event leaves to recoveries that may end with it: the state in which the claim has come that it delivers, or in which the node
-- is gone that it kills.
abbrev pub with_claim : Message → Letter → State → State
with_claim m (Ask mode) s = s
with_claim m Drop s = s
with_claim m (Grant mode valid) s = s
with_claim m (Claim dead) s = record s { awaited = filter (λ w. not (is_claimed dead m.from w)) s.awaited }

abbrev pub with_first : Option Message → State → State
with_first None s = s
with_first (Some m) s = with_claim m m.letter s

abbrev pub left_to : Event → State → State
left_to (event.Ask owner name mode fill) s = s
left_to (event.Drop owner name fill) s = s
left_to (event.Pass from to) s = with_first (find (is_between from to) s.mail) s
left_to (event.Kill node) s = bereft node s

-- What an ask or a drop makes of its master's table, which may take it. An ask is a request of an owner that has nothing there, or a
-- conversion of a lock of which no conversion is queued, and not between CW and PR. A drop is the release of such a lock.
pub data MakesCall (m : Message) (t t2 : List Resource) : Type 0 where
  Requests : (mode : Mode) → m.letter ≡ Ask mode → standing_of m.owner (resource_at m.name t).askers ≡ None → t2 ≡ asked m.name m.owner mode t → MakesCall m t t2
  Converts : (old mode : Mode) → m.letter ≡ Ask mode → lock_of m.owner (resource_at m.name t).askers ≡ Some old → is_across old mode ≡ false
      → t2 ≡ converted m.name m.owner mode m.value t → MakesCall m t t2
  Releases : (old : Mode) → m.letter ≡ Drop → lock_of m.owner (resource_at m.name t).askers ≡ Some old → t2 ≡ released m.name m.owner m.value t → MakesCall m t t2

-- The names of a dead node are being recovered, this name is one of them, and none of their claims is on its way any more.
pub record IsDue (r : State) (name : LockName) : Type 0 where
  pub dead : ℕ
  pub recovers : recovery name r ≡ Some dead
  pub all_came : is_open dead r.awaited ≡ false

-- the value block that a name gets by what has been claimed
abbrev pub claimed_block : State → LockName → Seen
claimed_block r name = block_for r.rule r.claims r.claimed_blocks name

-- A message asks for what a living owner has claimed of a name, its lock or what it waits for, with the value block that the name gets.
pub record IsClaimOf (r : State) (m : Message) : Type 0 where
  pub claim : Hold
  pub made : Contains r.claims claim
  pub of_owner : m.owner ≡ claim.owner
  pub on_name : m.name ≡ claim.name
  pub mode : Mode
  pub asks : m.letter ≡ Ask mode
  pub claims : (claim.belief ≡ Some mode) ⊎ (claim.wait ≡ Some mode)
  pub block : m.value ≡ (claimed_block r m.name).value

-- One step of a recovery that ends: the table of a name's home makes a call. It is a claim that was made, and then the name has the
-- value block that it gets, with its mark; or it is a message that was kept back.
pub data IsStep (nodes : ℕ) (r : State) (m : Message) (ts us : List (List Resource)) : Type 0 where
  Restores : (t : List Resource) → IsDue r m.name → IsClaimOf r m → MakesCall m (table_at (home nodes m.name) ts) t
      → us ≡ set ts (home nodes m.name - 1) (recovered m.name m.value (claimed_block r m.name).valid t) → IsStep nodes r m ts us
  Keeps : (t : List Resource) → IsDue r m.name → Contains r.kept m → MakesCall m (table_at (home nodes m.name) ts) t
      → us ≡ set ts (home nodes m.name - 1) t → IsStep nodes r m ts us

-- steps from tables to tables, by way of these
abbrev pub AreSteps : ℕ → State → List (List Resource) → List (List (List Resource)) → List (List Resource) → Type 0
AreSteps nodes r ts [] us = us ≡ ts
AreSteps nodes r ts (v ∷ vs) us = ((m : Message) × IsStep nodes r m ts v) × AreSteps nodes r v vs us

-- A grant that is sent behind a claim brings the version of the value block that its name gets. Of one behind a message that was kept back
-- nothing is said.
abbrev pub BringsClaimed : (nodes : ℕ) (r : State) (m : Message) (ts us : List (List Resource)) → IsStep nodes r m ts us → Message → Type 0
BringsClaimed nodes r m ts us (IsStep.Restores t due claim makes is) grant = grant.version ≡ (claimed_block r grant.name).version
BringsClaimed nodes r m ts us (IsStep.Keeps t due kept makes is) grant = Unit {0}

-- some steps, one after the other
pub record Leads (nodes : ℕ) (r : State) (ts us : List (List Resource)) : Type 0 where
  pub stops : List (List (List Resource))
  pub steps : AreSteps nodes r ts stops us

-- The tables go by calls of the lock manager: where an event delivers a call on a name that is not being recovered, the table of the
-- name's home makes it, and all others stay. With a claim recoveries may end, which are calls of what is claimed and of what was kept
-- back. A death takes away what the dead node had and the names that it was the master of, and then recoveries may end. On any other
-- event all tables stay.
pub data GoesByCalls (e : Event) (before after : State) : Type 0 where
  Stays : call_in e before ≡ None → after.tables ≡ before.tables → GoesByCalls e before after
  Calls : (m : Message) (t : List Resource) → call_in e before ≡ Some m → MakesCall m (table_at (home before.nodes m.name) before.tables) t
      → after.tables ≡ set before.tables (home before.nodes m.name - 1) t → GoesByCalls e before after
  Recovers : brings_claim (delivered e before) ≡ true → Leads before.nodes (left_to e before) before.tables after.tables → GoesByCalls e before after
  Dies : (dead : ℕ) → e ≡ event.Kill dead → names_living e before ≡ true
      → Leads before.nodes (left_to e before) (bereft_tables dead before.homes before.tables) after.tables → GoesByCalls e before after

-- so it is at each event of every list
abbrev pub TablesGoByCalls : Type 0
TablesGoByCalls =
    (rule : BlockRule) (nodes : ℕ) (es : List Event) (e : Event) → 1 ≤ nodes → GoesByCalls e (after_all (start rule nodes) es) (after e (after_all (start rule nodes) es))

-- in these tables the owner has this lock on the name, and the value block and its mark are these
pub record Gave (nodes : ℕ) (ts : List (List Resource)) (owner : Owner) (name : LockName) (mode : Mode) (value : List ℕ) (valid : Bool) : Type 0 where
  pub granted : standing_of owner (resource_at name (table_at (home nodes name) ts)).askers ≡ Some (Granted mode)
  pub block : (resource_at name (table_at (home nodes name) ts)).value ≡ value
  pub mark : (resource_at name (table_at (home nodes name) ts)).valid ≡ valid

-- an owner's ask for a mode stands in a queue of the name
pub record Waits (nodes : ℕ) (ts : List (List Resource)) (owner : Owner) (name : LockName) (mode : Mode) : Type 0 where
  pub standing : Standing
  pub stands : standing_of owner (resource_at name (table_at (home nodes name) ts)).askers ≡ Some standing
  pub queued : is_queued standing ≡ true
  pub wants : wanted standing ≡ mode

-- in these tables an owner's ask for a mode stands in a queue, or it is this call
pub data IsAskedFor (nodes : ℕ) (ts : List (List Resource)) (call : Message) (owner : Owner) (name : LockName) (mode : Mode) : Type 0 where
  Queues : Waits nodes ts owner name mode → IsAskedFor nodes ts call owner name mode
  Comes : call.owner ≡ owner → call.name ≡ name → call.letter ≡ Ask mode → IsAskedFor nodes ts call owner name mode

-- An event gives what a grant says by the call that it delivers. The call is on the name. Before the event the owner asks for the mode.
-- After it the owner has the lock in the table of the name, with that value block and that mark, and the grant has the version that the
-- name has.
pub record GivesByCall (s : State) (e : Event) (grant : Message) (mode : Mode) (valid : Bool) : Type 0 where
  pub call : Message
  pub delivers : call_in e s ≡ Some call
  pub on_name : call.name ≡ grant.name
  pub asks : IsAskedFor s.nodes s.tables call grant.owner grant.name mode
  pub gave : Gave s.nodes (after e s).tables grant.owner grant.name mode grant.value valid
  pub version : grant.version ≡ version_at grant.name (after e s).versions

-- somebody of this node has the name in a mode whose holders write
abbrev pub writes_on : ℕ → LockName → State → Bool
writes_on node name s = list_any (is_writer_of node) (resource_at name (table_at (home s.nodes name) s.tables)).askers

-- A death gives what a grant says. The name was not being recovered, and another node is its master. Before the death the owner's ask
-- stood in a queue. Once the locks and requests of the dead node are gone, and nothing else has changed, the owner has the lock, with
-- that value block and that mark, and the grant has the version that the name had. The block is not valid where the dead node could write it.
pub record GivesByDeath (s : State) (dead : ℕ) (grant : Message) (mode : Mode) (valid : Bool) : Type 0 where
  pub open_name : recovery grant.name s ≡ None
  pub stays : was_master dead s grant.name ≡ false
  pub waited : Waits s.nodes s.tables grant.owner grant.name mode
  pub gave : Gave s.nodes (bereft_tables dead s.homes s.tables) grant.owner grant.name mode grant.value valid
  pub cleared : writes_on dead grant.name s ≡ true → valid ≡ false
  pub version : grant.version ≡ version_at grant.name s.versions

-- One step of the recoveries between these tables gives what a grant says. It is a call on the name. Before it the owner asks for the
-- mode. After it the owner has the lock, with that value block and that mark.
pub record GivesBetween (nodes : ℕ) (r : State) (first last : List (List Resource)) (grant : Message) (mode : Mode) (valid : Bool) : Type 0 where
  pub before : List (List Resource)
  pub behind : List (List Resource)
  pub call : Message
  pub starts : Leads nodes r first before
  pub step : IsStep nodes r call before behind
  pub ends : Leads nodes r behind last
  pub on_name : call.name ≡ grant.name
  pub asks : IsAskedFor nodes before call grant.owner grant.name mode
  pub gave : Gave nodes behind grant.owner grant.name mode grant.value valid
  pub version : BringsClaimed nodes r call before behind step grant

-- Which change of an event gives what a grant says: the call that it delivers, the death, or a step of a recovery that ends with it. The
-- last is only where the name was being recovered before the event.
pub data GivenBy (s : State) (e : Event) (grant : Message) (mode : Mode) (valid : Bool) : Type 0 where
  ByCall : GivesByCall s e grant mode valid → GivenBy s e grant mode valid
  ByDeath : (dead : ℕ) → e ≡ event.Kill dead → names_living e s ≡ true → GivesByDeath s dead grant mode valid → GivenBy s e grant mode valid
  InRecovery : may_recover e s ≡ true → is_some (recovery grant.name s) ≡ true
      → GivesBetween s.nodes (left_to e s) (left_to e s).tables (after e s).tables grant mode valid → GivenBy s e grant mode valid

-- An event gives what a grant says, and the grant is among the messages that it has sent.
pub record Gives (s : State) (e : Event) (grant : Message) (mode : Mode) (valid : Bool) : Type 0 where
  pub gives : GivenBy s e grant mode valid
  pub sent : List Message
  pub sends : (after e s).mail ≡ undelivered e s ++ sent
  pub among : Contains sent grant

-- a message is on its way now and after each of these events
abbrev pub StaysOnItsWay : Message → State → List Event → Type 0
StaysOnItsWay m s [] = Contains s.mail m
StaysOnItsWay m s (e ∷ es) = Contains s.mail m × StaysOnItsWay m (after e s) es

-- one of these events has given what a grant says, and the grant is on its way since then
pub record WasGiven (s : State) (es : List Event) (grant : Message) (mode : Mode) (valid : Bool) : Type 0 where
  pub earlier : List Event
  pub giver : Event
  pub later : List Event
  pub are : es ≡ earlier ++ (giver ∷ later)
  pub gives : Gives (after_all s earlier) giver grant mode valid
  pub stays : StaysOnItsWay grant (after giver (after_all s earlier)) later

-- what an event tells of a grant stands in the message that it delivers, which was given
pub record TellsTruly (s : State) (es : List Event) (e : Event) (owner : Owner) (name : LockName) (mode : Mode) (value : List ℕ) (valid : Bool) : Type 0 where
  pub grant : Message
  pub comes : delivered e (after_all s es) ≡ Some grant
  pub letter : grant.letter ≡ Grant mode valid
  pub to_owner : grant.owner ≡ owner
  pub on_name : grant.name ≡ name
  pub block : grant.value ≡ value
  pub given : WasGiven s es grant mode valid

-- each grant that an event tells of was given, with the value block and the mark of the moment when it was given
abbrev pub GrantsAreTrue : Type 0
GrantsAreTrue =
    (rule : BlockRule) (nodes : ℕ) (es : List Event) (e : Event) (owner : Owner) (name : LockName) (mode : Mode) (value : List ℕ) (valid : Bool) → 1 ≤ nodes
    → told_of e (after_all (start rule nodes) es) ≡ told.Granted owner name mode value valid → TellsTruly (start rule nodes) es e owner name mode value valid

-- whatever is delivered in whatever order, and whoever dies, what owners believe goes together after each event
abbrev pub AllGoTogether : Type 0
AllGoTogether = (rule : BlockRule) (nodes : ℕ) (es : List Event) → 1 ≤ nodes → BeliefsGoTogether (after_all (start rule nodes) es)
