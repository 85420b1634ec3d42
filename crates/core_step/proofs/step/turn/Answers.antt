use Rattle.std.proofs.Common.{ap}
use Rattle.core_state.specs.Worlds.{plain_of}
use Rattle.core_step.proofs.Worlds.{world_kept, lists_kept, uses_kept}
use Rattle.core_step.proofs.step.turn.Goals as goal

pub invariant_of-w : goal.invariant_of-w
invariant_of-w g c = (
  world_kept c.step.result g.O.Operation.takes (plain_of g.O.Operation.cmd_is c.w.inside.core) (plain_of g.O.Operation.cmd_is c.step.new.core) c.w.inside.core.history.room c.step.new.core.history.room c.args.node
      c.w.invariant.0 c.step.ensures.turn.moved c.step.ensures.lawful c.step.ensures.turn.same c.step.ensures.turn.room,
  lists_kept c.step.result (plain_of g.O.Operation.cmd_is c.w.inside.core) (plain_of g.O.Operation.cmd_is c.step.new.core) c.w.inside.lists c.args.node c.w.invariant.1 c.step.ensures.turn.moved c.step.ensures.turn.same,
)

pub returns-clause-used : goal.returns-clause-used
returns-clause-used g c = uses_kept c.step.result g.O.Operation.takes (plain_of g.O.Operation.cmd_is c.w.inside.core) _ c.w.inside.core.history.room c.args.node c.w.invariant.0 c.step.ensures.lawful (ap (λ h. h.world) c.w.view_is)
