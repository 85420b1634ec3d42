-- The invariant of a world, in parts.
use Rattle.std.specs.Prelude.{◌≡◌, ◌≤◌, ◌⊎◌, ◌+◌, ◌++◌, ℕ, Bool, true, false, List, [], ◌∷◌, Option, Some, None, is_some, length, if◌then◌else◌}
use Rattle.std.specs.List.{count_by}
use Rattle.lock_db.specs.declared.name.LockName.{LockName}
use Rattle.lock_db.specs.declared.resource.Resource.{Resource}
use Rattle.plain_cat.specs.declared.mode.Mode.{Mode}
use Rattle.plain_cat.specs.declared.mode.Mode.TheVariants.{PR, PW}
use Rattle.plain_cat.specs.InForm.{InForm}
use Rattle.plain_cat.specs.declared.command.Cmd.{Cmd}
use Rattle.plain_cat.specs.declared.cat.Cat.{Cat}
use Rattle.plain_cat.specs.declared.script.Script.{Script}
use Rattle.plain_cat.specs.declared.history.Entry.{Entry}
use Rattle.plain_rules.specs.Lookups.{is_free_number}
use Rattle.plain_rules.specs.Accounts.{Accounted}
use Rattle.plain_rules.specs.Mending.{is_true}
use Rattle.plain_rules.specs.Own.{NodePast, past, lines_of, next_command, Own}
use Rattle.plain_rules.specs.Replaying.{Replays}
use Rattle.plain_histories.specs.Opens.{OpensNameFiles}
use Rattle.plain_histories.specs.Usages.{AreNear, HasSmallFiles}
use Rattle.base_words.specs.Fields.{Block}
use Rattle.vol_parts.specs.Findings.{Accepts, CatOf}
use Rattle.lock_db.specs.Tables.{IsTable}
use Rattle.node_locks.specs.Held.{Row, names_of, AreHeld, waits_at, all_held}
use Rattle.base_words.specs.Lists.{Has}
use Rattle.vol_spell.specs.Owners.{nothing}
use Rattle.vol_spell.specs.Spelling.{AreBlank}
use Rattle.vol_under.specs.UnderWay.{UnderWay, resting}
use Rattle.vol_under.specs.Under.{IsUnder}
use Rattle.op_law.specs.declared.need.Need.TheVariants as need
use Rattle.op_law.specs.declared.need.Plan.{Plan}
use Rattle.op_law.specs.declared.seen.Seen.{Seen}
use Rattle.op_law.specs.Events.{space_of, HasNoSpace}
use Rattle.op_law.specs.Needs.{IsNext}
use Rattle.op_law.specs.Fits.{HasSeen}
use Rattle.op_law.specs.Laws.{held_in, under_way, takes_lock, Lawful}
use Rattle.core_state.specs.Worlds.{Course, course_of, NodeState, Plain, node_at, rows_of, rows_at}
use Rattle.core_state.specs.Asks.{writes_by, writes_now, own_ask, with_ask, knows_now}
use Rattle.core_state.specs.Opens.{open_now, AreOpensLocked}
use Rattle.core_state.specs.Channels.{names_in_form, channel_now, HasChannels, HasOpens}
use Rattle.core_state.specs.Stores.{HasStore, IsGone, IsStocked, AreCached, AreHeldWrites}
use Rattle.core_state.specs.Stocks.{stock_now, looked_now}
use Rattle.core_state.specs.Searches.{Spaces}
use Rattle.core_state.specs.Waiting.{WaitsForLock, WaitsAside}
use Rattle.core_state.specs.Small.{AreSmall}
use Rattle.core_state.specs.Fallen.{falls, fallen, living}

-- ---- the nodes under way

-- the locks that a node holds
abbrev pub held_by : List Resource → ℕ → NodeState → Row
held_by t n s = all_held t n (rows_of s)

-- the command of a node as the drive sees it: what it knows, was given, and its writes, all or those before its ask
abbrev pub command_under : ℕ → Seen → Bool → Option Plan → ℕ → Option Cmd → UnderWay
command_under n seen tried plan done None = resting nothing
command_under n seen tried plan done (Some x) = record (under_way x seen (writes_now tried plan) (knows_now n x seen tried plan)) { done = done }

-- A node as the drive sees it: its command, the locks that are granted to it, what it has looked at by its rules for space and for the
-- command, and its stock with what the rules have taken.
abbrev pub under_with : List Resource → ℕ → NodeState → Option Cmd → UnderWay
under_with t n s o = record (command_under n s.seen s.tried s.plan s.done o) {
  read = held_in PR (held_by t n s);
  write = held_in PW (held_by t n s);
  seen = looked_now s.run ++ s.seen.blocks;
  stock = stock_now s.stock s.run;
}

abbrev pub under_by : List Resource → ℕ → Option NodeState → UnderWay
under_by t n None = resting nothing
under_by t n (Some s) = under_with t n s s.cmd

abbrev pub nodes_under : List Resource → List NodeState → ℕ → UnderWay
nodes_under t nodes n = under_by t n (node_at nodes n)

-- ---- the parts

-- no number of a system file is free
abbrev pub HasSystemNumbers : Cat → Type 0
HasSystemNumbers c = (n : ℕ) → n ≤ 11 → is_free_number c n ≡ false

-- The history replays from the opening catalogue, and the drive is that of the catalogue to which it leads, with the writes done
-- of each command under way. The catalogue keeps the limits of a volume and its quotas, and its opens name files. Each channel has
-- the lock of what it has open, by the catalogue or by an ask that was granted. Each death is that of a node of the world, and usages
-- are above what files cost by what the deaths have left at most. What the nodes have open, cached and in stock is so. On the
-- committed blocks the header slot of each number outside is free.
pub record IsRunning (w : Plain) : Type 0 where
  pub cat : Cat
  pub replayed : Replays w.opening w.script w.history cat
  pub drive : IsUnder w.geometry cat (nodes_under w.locks w.nodes) w.blocks
  pub accounted : Accounted cat
  pub near : AreNear cat (falls w.history)
  pub sized : HasSmallFiles cat
  pub fell : falls w.history ≡ fallen w.history w.script.nodes
  pub system : HasSystemNumbers cat
  pub named : OpensNameFiles cat
  pub opens : AreOpensLocked w.locks (open_now cat w.nodes)
  pub opened : (n : ℕ) (s : NodeState) → node_at w.nodes n ≡ Some s → HasOpens cat n s.opens
  pub stocked : (n : ℕ) (s : NodeState) → node_at w.nodes n ≡ Some s → IsStocked s
  pub cached : AreCached w drive.own cat
  pub blank : AreBlank w.geometry drive.base drive.own

-- the lock table has for each node's file system the rows of locks that it has asked for
abbrev pub AreLocked : Plain → Type 0
AreLocked w = IsTable w.locks × AreHeld w.locks (rows_at w.nodes)

-- a command that has no plan yet has done nothing, and one that has decided has the locks that it asked for
abbrev pub IsAtPlan : Cmd → Bool → Seen → ℕ → Bool → Option Plan → Type 0
IsAtPlan x waits seen done tried None = done ≡ 0
IsAtPlan x waits seen done tried (Some p) = IsNext x seen (need.Ready p) × (waits ≡ false) × (done ≤ length (writes_by p.ask tried p.writes))

-- A command of node n under way, which has come so far, is its node's next one, by the lock table. Its channel is one of eight. It
-- obeys the law, what it has seen fits it, and its locks are such as it takes itself, and as the last that of an ask of its file
-- system. Where it waits, it is for the last of them.
pub record IsUnderWay (coming : Option Cmd) (t : List Resource) (n : ℕ) (d : Course) (x : Cmd) : Type 0 where
  pub next : coming ≡ Some x
  pub form : names_in_form x ≡ true
  pub lawful : Lawful x
  pub seen : HasSeen x d.seen
  pub own : (name : LockName) → Has (names_of d.seen.locks) name → takes_lock x name ≡ true
  pub plan : IsAtPlan x (waits_at t n d.asked) d.seen d.done d.tried d.plan
  pub same : d.asked ≡ with_ask d.seen.locks (own_ask d.tried d.plan)
  pub waits : waits_at t n d.asked ≡ true → WaitsForLock x d.asked d.seen

-- a node without a command has seen nothing, was given nothing, and has decided on nothing
pub record IsIdle (seen : Seen) (own : List (LockName × Mode)) (made : Option Plan) (writes : ℕ) : Type 0 where
  pub locks : seen.locks ≡ []
  pub blocks : seen.blocks ≡ []
  pub space : HasNoSpace (space_of seen)
  pub asked : own ≡ []
  pub plan : made ≡ None
  pub done : writes ≡ 0

-- a node stands so by its command
abbrev pub HasCourse : Option Cmd → List Resource → ℕ → Course → Option Cmd → Type 0
HasCourse next t n d None = IsIdle d.seen d.asked d.plan d.done
HasCourse next t n d (Some x) = IsUnderWay next t n d x

-- the same of node n of a world, which stands as s
abbrev pub IsAt : Plain → ℕ → NodeState → Cmd → Type 0
IsAt w n s x = IsUnderWay (next_command w.script n w.history) w.locks n (course_of s) x

abbrev pub HasCommand : Plain → ℕ → NodeState → Option Cmd → Type 0
HasCommand w n s cmd = HasCourse (next_command w.script n w.history) w.locks n (course_of s) cmd

-- A node has what the history says of its answers, its channels and its store are in order, it waits for none of the locks that
-- it keeps, nor for those of its command where its rules for space are at work, and it stands as its command and these have left it. Once it has left or is dead, it has nothing; and it
-- leaves only where no command is left.
pub record IsNode (w : Plain) (n : ℕ) (s : NodeState) : Type 0 where
  pub past : s.past ≡ past n w.history
  pub geometry : s.seen.geometry ≡ w.geometry
  pub channels : HasChannels s.past s.opens
  pub channel : s.seen.channel ≡ channel_now s.opens s.cmd
  pub store : HasStore s.run.phase s.kept s.cache
  pub rests : waits_at w.locks n s.kept ≡ false
  pub asks : waits_at w.locks n s.asked ≡ true → WaitsAside s.run.phase s.asked s.seen.number
  pub command : HasCommand w n s s.cmd
  pub space : Spaces s.cmd s.kept s.claims s.run s.stock s.seen
  pub over : s.over ≡ true → IsGone s.cmd s.asked s.kept s.claims s.stock s.cache × (next_command w.script n w.history ≡ None)
  pub gone : s.past.dead ≡ true → IsGone s.cmd s.asked s.kept s.claims s.stock s.cache

-- each command that the script can come to is one of these
abbrev pub HasOnly : (Cmd → Type 0) → Script → Type 0
HasOnly these s = (n : ℕ) (h : List Entry) (x : Cmd) → next_command s n h ≡ Some x → these x

-- A node has not answered more commands than it has lines; or, with the channels that are still open, eight more at most, since each
-- close behind the last line closes a channel.
abbrev pub HasFewAnswers : Script → ℕ → NodePast → Type 0
HasFewAnswers s n p = (p.answered ≤ length (lines_of n s.lines)) ⊎ (p.answered + count_by is_true p.channels ≤ length (lines_of n s.lines) + 8)

-- The invariant.
pub record Good (w : Plain) : Type 0 where
  pub counted : length w.nodes ≡ w.script.nodes
  pub running : IsRunning w
  pub locked : AreLocked w
  pub nodes : (n : ℕ) (s : NodeState) → node_at w.nodes n ≡ Some s → IsNode w n s
  pub own : Own w.script w.history
  pub small : AreSmall w
  pub writers : AreHeldWrites w
  pub form : InForm w.script
  pub few : (n : ℕ) → HasFewAnswers w.script n (past n w.history)
  -- the entries are of nodes of the world
  pub strangers : (n : ℕ) → node_at w.nodes n ≡ None → next_command w.script n w.history ≡ None

-- how many nodes have decided on a plan
abbrev pub decided : List NodeState → ℕ
decided [] = 0
decided (s ∷ ss) = (if is_some s.plan then 1 else 0) + decided ss

-- A world of at most 8 nodes and 4,096 lines, whose history has room for the answer of each node that has decided, and for the death of
-- each that lives.
pub record HasRoom (w : Plain) (spare : ℕ) : Type 0 where
  pub few : length w.nodes ≤ 8
  pub lines : length w.script.lines ≤ 4096
  pub places : decided w.nodes + living w.history w.script.nodes ≤ spare

-- a list of file numbers is kept for the death of each node that lives
abbrev pub HasLists : Plain → ℕ → Type 0
HasLists w lists = living w.history w.script.nodes ≤ lists

-- a catalogue that an accepted volume tells
abbrev pub IsAccepted : Cat → Type 0
IsAccepted c = (bs : List Block) × Accepts bs × CatOf bs c

-- such a world whose opening catalogue is that of an accepted volume, and whose operations take each command of the script
pub record IsWorld (takes : Cmd → Type 0) (w : Plain) (spare : ℕ) : Type 0 where
  pub good : Good w
  pub accepted : IsAccepted w.opening
  pub room : HasRoom w spare
  pub taken : HasOnly takes w.script
