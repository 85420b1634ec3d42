use Rattle.std.proofs.Common.{◌≡◌, Some, false, sym, ap, subst, ◌∙◌}
use Rattle.core_space.specs.declared.run.Phase.TheVariants as phase
use Rattle.core_state.specs.Worlds.{state_of, plain_of}
use Rattle.core_space.specs.Rule.{back_event}
use Rattle.core_state.specs.Events.{by_rule, or_use, space_need, space_state}
use Rattle.core_state.proofs.Nodes.{told_at}
use Rattle.core_step.specs.Moving.{CanMove}
use Rattle.core_step.proofs.Begun.{gives_so, not_claimed}
use Rattle.core_step.proofs.Doing.{geometry_now, back_can_move}
use Rattle.core_step.proofs.Outcomes.{makes_as}
use Rattle.core_step.proofs.Ruled.{back_puts}
use Rattle.core_step.proofs.step.by_back.Goals as goal

pub back_event-event-requires : goal.back_event-event-requires
back_event-event-requires g c =
    let here = told_at (state_of g.O.Operation.cmd_is) c.args.core.now.nodes.items c.args.node c.index.result.now c.requires.node.from c.requires.node.to c.index.ensures in
    let its = c.requires.on (state_of g.O.Operation.cmd_is c.index.result.now) here in
    geometry_now (plain_of g.O.Operation.cmd_is c.args.core.now) c.requires.good c.args.node (state_of g.O.Operation.cmd_is c.index.result.now) here its.0 (not_claimed (plain_of g.O.Operation.cmd_is c.args.core.now) c.args.node (state_of g.O.Operation.cmd_is c.index.result.now) its.1.1)

pub by_rule-requires-clause-makes : goal.by_rule-requires-clause-makes
by_rule-requires-clause-makes g c s at =
    let here = told_at (state_of g.O.Operation.cmd_is) c.args.core.now.nodes.items c.args.node c.index.result.now c.requires.node.from c.requires.node.to c.index.ensures in
    let one : Some (state_of g.O.Operation.cmd_is c.index.result.now) ≡ Some s = sym here ∙ at in
    let mine : state_of g.O.Operation.cmd_is c.index.result.now ≡ s = cc in
    let its = c.requires.on s at in
    makes_as (gives_so (plain_of g.O.Operation.cmd_is c.args.core.now) c.args.node s at its.0 its.1.1 its.1.0)
    (ap (λ e. or_use (plain_of g.O.Operation.cmd_is c.args.core.now) s (by_rule s phase.Back (space_need 0 false) e)) (sym (c.back_event-event.ensures ∙ ap (λ q. back_event (space_state q)) mine)))

pub by_rule-requires-clause-can : goal.by_rule-requires-clause-can
by_rule-requires-clause-can g c s at =
    let here = told_at (state_of g.O.Operation.cmd_is) c.args.core.now.nodes.items c.args.node c.index.result.now c.requires.node.from c.requires.node.to c.index.ensures in
    let one : Some (state_of g.O.Operation.cmd_is c.index.result.now) ≡ Some s = sym here ∙ at in
    let mine : state_of g.O.Operation.cmd_is c.index.result.now ≡ s = cc in
    let its = c.requires.on s at in
    subst (CanMove (plain_of g.O.Operation.cmd_is c.args.core.now) c.args.node s) (ap (by_rule s phase.Back (space_need 0 false)) (sym (c.back_event-event.ensures ∙ ap (λ q. back_event (space_state q)) mine)))
    (back_can_move (plain_of g.O.Operation.cmd_is c.args.core.now) c.requires.good c.args.node s at its.0 (not_claimed (plain_of g.O.Operation.cmd_is c.args.core.now) c.args.node s its.1.1) its.1.0)

pub by_rule-requires-clause-puts : goal.by_rule-requires-clause-puts
by_rule-requires-clause-puts g c s lbn b at is =
    let here = told_at (state_of g.O.Operation.cmd_is) c.args.core.now.nodes.items c.args.node c.index.result.now c.requires.node.from c.requires.node.to c.index.ensures in
    let one : Some (state_of g.O.Operation.cmd_is c.index.result.now) ≡ Some s = sym here ∙ at in
    let mine : state_of g.O.Operation.cmd_is c.index.result.now ≡ s = cc in
    back_puts s lbn b (sym (c.back_event-event.ensures ∙ ap (λ q. back_event (space_state q)) mine) ∙ is)
