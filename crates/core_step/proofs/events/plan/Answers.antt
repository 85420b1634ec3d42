use Rattle.std.proofs.Common.{◌-◌, refl, ap, map, slice_set, ◌∙◌}
use Rattle.core_state.specs.Worlds.{shown, state_of, plain_of}
use Rattle.core_step.proofs.Steps.{planned_so}
use Rattle.core_step.proofs.events.plan.Goals as goal

pub returns-clause-world : goal.returns-clause-world
returns-clause-world g c =
    ap (λ h. record (plain_of g.O.Operation.cmd_is c.args.core.now) { nodes = map (state_of g.O.Operation.cmd_is) (slice_set c.args.core.now.nodes.items (c.args.node - 1) c.keep_plan.new.node); history = map shown h }) c.make_room.ensures.same
    ∙ planned_so (state_of g.O.Operation.cmd_is) c.args.core.now.nodes.items (plain_of g.O.Operation.cmd_is c.args.core.now) c.args.node c.index_mut.result.now c.keep_plan.new.node c.requires.from c.requires.to c.index_mut.ensures.value refl c.args.plan c.keep_plan.ensures
