use Rattle.std.proofs.Common.{refl, sym, ap, subst, ◌∙◌}
use Rattle.core_state.specs.Worlds.{state_of, plain_of}
use Rattle.core_state.proofs.Nodes.{told_at}
use Rattle.core_state.specs.Events.{left_alone}
use Rattle.core_step.specs.Giving.{MayLeaveAll}
use Rattle.core_step.proofs.Steps.{left}
use Rattle.core_step.proofs.events.leave.Goals as goal

pub leave_all-requires : goal.leave_all-requires
leave_all-requires g c = subst (λ ls. MayLeaveAll c.args.node ls c.args.core.now.locks) (sym c.items.ensures) (c.requires.may (state_of g.O.Operation.cmd_is c.index_mut-at.result.now) (told_at (state_of g.O.Operation.cmd_is) c.args.core.now.nodes.items c.args.node c.index_mut-at.result.now c.requires.node.from c.requires.node.to c.index_mut-at.ensures.value))

pub returns-clause-world : goal.returns-clause-world
returns-clause-world g c = left (state_of g.O.Operation.cmd_is) c.args.core.now.nodes.items (plain_of g.O.Operation.cmd_is c.args.core.now) c.args.node c.index_mut-at.result.now c.leave_node.new.node c.requires.node.from c.requires.node.to c.index_mut-at.ensures.value refl
    c.leave_all.new.locks (c.leave_all.ensures ∙ ap (λ ls. left_alone c.args.node ls c.args.core.now.locks) c.items.ensures) c.leave_node.ensures
