use Rattle.std.proofs.Common.{sym, ap, ◌∙◌}
use Rattle.std.specs.Prelude.{is_some}
use Rattle.core_state.specs.Worlds.{state_of}
use Rattle.core_state.specs.Events.{plan_in}
use Rattle.core_state.proofs.Nodes.{told_at}
use Rattle.core_step.proofs.FromStock.{ready_planned}
use Rattle.core_step.proofs.Ready.{none_of}
use Rattle.core_step.proofs.step.go_on.Goals as goal

pub planned-requires-clause-ready : goal.planned-requires-clause-ready
planned-requires-clause-ready g c =
    let here = told_at (state_of g.O.Operation.cmd_is) c.args.core.now.nodes.items c.args.node c.index.result.now c.requires.node.from c.requires.node.to c.index.ensures in
    ready_planned c.requires.good c.requires.begun (ap (λ o. is_some (plan_in o)) here ∙ sym c.if-is_some.ensures)

pub planned-requires-clause-plan : goal.planned-requires-clause-plan
planned-requires-clause-plan g c =
    let here = told_at (state_of g.O.Operation.cmd_is) c.args.core.now.nodes.items c.args.node c.index.result.now c.requires.node.from c.requires.node.to c.index.ensures in
    ap (λ o. is_some (plan_in o)) here ∙ sym c.if-is_some.ensures

pub unplanned-requires-clause-plan : goal.unplanned-requires-clause-plan
unplanned-requires-clause-plan g c =
    let here = told_at (state_of g.O.Operation.cmd_is) c.args.core.now.nodes.items c.args.node c.index.result.now c.requires.node.from c.requires.node.to c.index.ensures in
    ap plan_in here ∙ none_of c.index.result.now.plan (sym c.if-is_some.ensures)
