-- When a node is killed, by what it has counted, and what its event answers.
use Rattle.std.specs.Prelude.{◌==◌, ◌+◌, ◌&&◌, ℕ, Bool, true, false, Option, Some, None, length, nat_lt, if◌then◌else◌}
use Rattle.plain_cat.specs.declared.script.KillAt.{KillAt}
use Rattle.plain_cat.specs.declared.script.KillAt.TheVariants as kill
use Rattle.plain_cat.specs.declared.script.Kill.{Kill}
use Rattle.op_law.specs.declared.need.Plan.{Plan}
use Rattle.core_state.specs.Worlds.{NodeState, Plain}
use Rattle.core_state.specs.Asks.{writes_by}
use Rattle.core_state.specs.Events.{next_event}
use Rattle.core_state.specs.Deaths.{is_due}
use Rattle.core_step.specs.Turns.{told}
use Rattle.core_step.specs.declared.turns.Turn.{Turn}
use Rattle.core_step.specs.declared.turns.Turn.TheVariants as turn

-- its rules for space have a write to make
abbrev pub has_space_write : NodeState → Bool
has_space_write s = nat_lt s.run.made (length s.run.writes)

-- a node that is not over, does not wait, and gives no stock back makes a write next
abbrev pub has_write_in : NodeState → Option Plan → Bool
has_write_in s None = has_space_write s
has_write_in s (Some p) = nat_lt s.done (length (writes_by p.ask s.tried p.writes))

abbrev pub has_write : NodeState → Bool
has_write s = has_write_in s s.plan

-- one that gives it back goes on with its rules for space
abbrev pub has_next : Bool → NodeState → Bool
has_next true s = has_space_write s
has_next false s = has_write s

-- a kill comes in place of a turn of a node that has made so many turns and writes
abbrev pub comes_by : KillAt → ℕ → ℕ → Bool → Bool
comes_by (kill.Turn t) turns writes writing = turns + 1 == t
comes_by (kill.Write k) turns writes writing = (writes + 1 == k) && writing

abbrev pub is_of : ℕ → Kill → Bool
is_of n k = k.node == n

abbrev pub kills_by : ℕ → ℕ → ℕ → Bool → Kill → Bool
kills_by n turns writes writing k = is_of n k && comes_by k.at turns writes writing

-- the answer of its turn, or Over with its death
abbrev pub told_of_step : Plain → Plain → ℕ → Turn
told_of_step old new n = if is_due old n then turn.Over else told new n (next_event old n)
