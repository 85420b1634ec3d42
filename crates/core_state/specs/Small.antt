-- How far the sequences of value blocks have come: none is beyond four times the number of the commands begun.
use Rattle.std.specs.Prelude.{◌≡◌, ◌≤◌, ◌+◌, ◌*◌, ℕ, Bool, true, false, is_some, if◌then◌else◌}
use Rattle.std.specs.List.{sum_by, count_by}
use Rattle.lock_db.specs.declared.name.LockName.{LockName}
use Rattle.lock_db.specs.declared.name.LockName.TheVariants.{X}
use Rattle.lock_db.specs.Tables.{resource_at}
use Rattle.node_locks.specs.Sequences.{rise, raised, first_sequence, second_sequence}
use Rattle.plain_cat.specs.declared.history.Entry.{Entry}
use Rattle.plain_cat.specs.declared.history.Entry.TheVariants.{Done, Died, Mended}
use Rattle.core_space.specs.declared.run.Phase.{Phase}
use Rattle.core_space.specs.declared.run.Phase.TheVariants as phase
use Rattle.core_state.specs.Worlds.{NodeState, Plain}
use Rattle.core_state.specs.Asks.{has_asked, is_claiming}

-- an entry that ends a command, or a node: its answer, or its death
abbrev pub is_begun : Entry → Bool
is_begun (Done n x r) = true
is_begun (Died n stage clusters numbers) = true
is_begun (Mended m) = false

abbrev pub has_command : NodeState → Bool
has_command s = is_some s.cmd

-- how many commands were begun at most: those that were answered, those under way, and one for each death
abbrev pub begun_count : Plain → ℕ
begun_count w = count_by is_begun w.history + count_by has_command w.nodes

-- a node that keeps X may give its stock back, and lower V for that
abbrev pub lent : NodeState → ℕ
lent s = if has_asked X s.kept then 1 else 0

-- by how much the rules for space of a command, and its answer, may still raise a sequence: a lowering of V by one, the answer by two,
-- and what the node keeps then by one
abbrev pub owed_in : Phase → Bool → ℕ → ℕ
owed_in phase.Off claiming more = 4 + more
owed_in phase.Fill claiming more = if claiming then 4 else 3
owed_in phase.Drain claiming more = if claiming then 4 else 3
owed_in phase.Last claiming more = 3
owed_in phase.Back claiming more = 4 + more

-- by how much a node may still raise a sequence at most
abbrev pub owed : NodeState → ℕ
owed s = if has_command s then owed_in s.run.phase (is_claiming s.claims) (lent s) else lent s

-- Each sequence of each value block, with what the commands under way may still raise it by, is at most four times the commands
-- begun. A name that nobody asks for has zeros.
pub record AreSmall (w : Plain) : Type 0 where
  pub first : (name : LockName) → first_sequence (resource_at name w.locks).value + sum_by owed w.nodes ≤ 4 * begun_count w
  pub second : (name : LockName) → second_sequence (resource_at name w.locks).value + sum_by owed w.nodes ≤ 4 * begun_count w

-- a sequence that an answer raises by just as much as it says: it does not come to the last value of 64 bits
abbrev pub GoesOn : ℕ → Type 0
GoesOn sequence = (valid : Bool) (by : ℕ) → by ≤ 2 → raised valid by sequence ≡ sequence + rise valid by

-- so it is with both sequences of each value block
pub record AllGoOn (w : Plain) : Type 0 where
  pub first : (name : LockName) → GoesOn (first_sequence (resource_at name w.locks).value)
  pub second : (name : LockName) → GoesOn (second_sequence (resource_at name w.locks).value)
