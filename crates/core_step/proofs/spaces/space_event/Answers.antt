use Rattle.std.proofs.Common.{ap, ◌∙◌}
use Rattle.std.proofs.lemmas.Result.{IfOk-weaker}
use Rattle.core_space.specs.declared.event.SpaceEvent.{SpaceEvent}
use Rattle.core_space.specs.Rule.{space_event}
use Rattle.core_state.specs.Worlds.{state_of}
use Rattle.core_state.specs.Events.{space_locks}
use Rattle.core_step.proofs.SpaceStates.{rooms_away}
use Rattle.core_step.proofs.spaces.space_event.Goals as goal

pub returns-clause-event : goal.returns-clause-event
returns-clause-event g c =
    let node = c.args.node.now in
    IfOk-weaker c.space_next.result _ _ (λ (e : SpaceEvent) h.
    h ∙ ap (λ l. space_event (record { geometry = node.seen.geometry; locks = l; run = node.run; stock = node.stock }) c.args.need) c.space_locks.ensures
    ∙ rooms_away node.run.phase node.seen.geometry (space_locks (state_of g.O.Operation.cmd_is node)) node.run node.stock c.args.need) c.space_next.ensures.event
