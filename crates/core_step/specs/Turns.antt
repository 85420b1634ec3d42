-- What a turn answers.
use Rattle.std.specs.Prelude.{ℕ, Bool, false, Option, Some, None, is_some, if◌then◌else◌}
use Rattle.node_locks.specs.Held.{waits_at}
use Rattle.core_state.specs.Worlds.{NodeState, Plain, node_at}
use Rattle.core_state.specs.Event.{Event}
use Rattle.core_state.specs.Event as event
use Rattle.core_state.specs.Events.{command_at}
use Rattle.core_step.specs.declared.turns.Turn.{Turn}
use Rattle.core_step.specs.declared.turns.Turn.TheVariants as turn
use Rattle.core_step.specs.declared.turns.Kind.TheVariants as kind

-- whether the last lock that a node's command has asked for stands in a queue
abbrev pub is_queued_in : Plain → ℕ → Option NodeState → Bool
is_queued_in w n None = false
is_queued_in w n (Some s) = waits_at w.locks n s.asked

-- whether the lock that it has claimed by its rules for space does
abbrev pub is_claim_queued_in : Plain → ℕ → Option NodeState → Bool
is_claim_queued_in w n None = false
is_claim_queued_in w n (Some s) = waits_at w.locks n s.claims

-- the answer after an event of node n that has led to this world
abbrev pub told : Plain → ℕ → Event → Turn
told w n event.Rest = turn.Over
told w n event.Stand = turn.Waiting
told w n event.Leave = turn.Over
told w n (event.Lock name mode) = if is_queued_in w n (node_at w.nodes n) then turn.Waiting else turn.Moved kind.Locked
told w n (event.Look name lbn) = turn.Moved kind.Looked
told w n (event.Use name lbn) = turn.Moved kind.Used
told w n (event.Fetch lbn) = turn.Moved kind.Looked
told w n (event.Claim p name mode) = if is_claim_queued_in w n (node_at w.nodes n) then turn.Waiting else turn.Moved kind.Locked
told w n (event.SpaceLook clusters number lbn) = turn.Moved kind.Looked
told w n (event.SpaceUse clusters number lbn) = turn.Moved kind.Used
told w n event.LowerV = turn.Moved kind.Lowered
told w n event.LowerX = turn.Moved kind.Lowered
told w n event.Return = turn.Moved kind.Returned
told w n event.SpaceEnd = turn.Waiting
told w n (event.SpaceWrite v) = turn.Moved kind.Wrote
told w n (event.Plan p) = turn.Moved kind.Planned
told w n (event.Write v) = turn.Moved kind.Wrote
told w n (event.Ask x a) = if is_some (command_at w n) then turn.Moved kind.Tried else turn.Answered
told w n (event.Answer x r) = turn.Answered
