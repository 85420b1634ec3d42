-- Notices to owners whose locks are in the way of others.
use Rattle.std.specs.Prelude.{◌≡◌, ◌≢◌, ◌≤◌, ◌&&◌, not, ℕ, Bool, true, false, List, Some, filter, map, is_some, Contains}
use Rattle.std.specs.List.{flat_map}
use Rattle.plain_cat.specs.declared.mode.Mode.{Mode}
use Rattle.plain_cat.specs.Modes.{compatible_modes}
use Rattle.lock_db.specs.declared.name.LockName.{LockName}
use Rattle.lock_db.specs.declared.name.Owner.{Owner}
use Rattle.lock_db.specs.Names.{is_same, same_owner}
use Rattle.lock_db.specs.Queues.{mode_of, goes_beside}
use Rattle.dlm_core.specs.declared.messages.Message.{Message}
use Rattle.dlm_core.specs.declared.holds.Hold.{Hold}
use Rattle.dlm_core.specs.declared.queue.Waiter.{Waiter}
use Rattle.dlm_core.specs.declared.notices.Notice.{Notice}
use Rattle.dlm_core.specs.declared.events.Event.{Event}
use Rattle.dlm_core.specs.declared.rules.BlockRule.{BlockRule}
use Rattle.dlm_core.specs.States.{State, master, told_at, start}
use Rattle.dlm_core.specs.Steps.{is_call}
use Rattle.dlm_core.specs.Runs.{after_all, Waits}

-- at its master an owner has a lock that does not go with what another owner waits for
abbrev pub is_in_way : State → Waiter → Hold → Bool
is_in_way s w h = is_same h.name w.name && (not (same_owner h.owner w.owner) && not (goes_beside w.mode (mode_of h.owner (told_at w.name s).askers)))

-- the master tells it what is waited for
abbrev pub notice_to : State → Waiter → Hold → Notice
notice_to s w h = record { from = master w.name s; owner = h.owner; name = w.name; wanted = w.mode }

abbrev pub notices_for : State → Waiter → List Notice
notices_for s w = map (notice_to s w) (filter (is_in_way s w) s.holds)

-- for each ask that waits, in order of the queue, a notice to each whose lock is in its way, in order of what owners believe
abbrev pub notices : State → List Notice
notices s = flat_map (notices_for s) s.queue

-- A notice is true: it comes from the master of the name. There its owner has a lock that does not go with the mode which another
-- owner waits for.
pub record IsTrueNow (s : State) (n : Notice) : Type 0 where
  pub by_master : n.from ≡ master n.name s
  pub asker : Owner
  pub another : asker ≢ n.owner
  pub waits : Waits s.nodes s.tables asker n.name n.wanted
  pub lock : Mode
  pub has : mode_of n.owner (told_at n.name s).askers ≡ Some lock
  pub in_way : compatible_modes n.wanted lock ≡ false

-- On a name where somebody waits there is a notice, or a call is on its way of an owner that has a lock there.
pub data IsTold (s : State) (name : LockName) : Type 0 where
  ByNotice : (n : Notice) → Contains (notices s) n → n.name ≡ name → IsTold s name
  Calls : (m : Message) → Contains s.mail m → m.name ≡ name → is_call m.letter ≡ true → is_some (mode_of m.owner (told_at name s).askers) ≡ true → IsTold s name

-- so it is after every list of events
pub record NoticesAreTrue : Type 0 where
  pub are_true : (rule : BlockRule) (nodes : ℕ) (es : List Event) (n : Notice) → 1 ≤ nodes → Contains (notices (after_all (start rule nodes) es)) n → IsTrueNow (after_all (start rule nodes) es) n
  pub are_told : (rule : BlockRule) (nodes : ℕ) (es : List Event) (owner : Owner) (name : LockName) (mode : Mode) → 1 ≤ nodes
      → Waits (after_all (start rule nodes) es).nodes (after_all (start rule nodes) es).tables owner name mode → IsTold (after_all (start rule nodes) es) name
