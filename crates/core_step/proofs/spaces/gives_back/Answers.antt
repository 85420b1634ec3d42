use Rattle.std.proofs.Common.{◌≡◌, Some, sym, ap, ◌∙◌}
use Rattle.core_state.specs.Worlds.{state_of, plain_of}
use Rattle.core_state.specs.Events.{gives_back_in}
use Rattle.core_state.proofs.Nodes.{told_at}
use Rattle.core_step.proofs.Due.{none_gives}
use Rattle.core_step.proofs.spaces.gives_back.Goals as goal

pub returns-in-Back : goal.returns-in-Back
returns-in-Back g c s at =
    let here = told_at (state_of g.O.Operation.cmd_is) c.args.core.now.nodes.items c.args.node c.index.result.now c.requires.node.from c.requires.node.to c.index.ensures in
    let one : Some (state_of g.O.Operation.cmd_is c.index.result.now) ≡ Some s = sym here ∙ at in
    let mine : state_of g.O.Operation.cmd_is c.index.result.now ≡ s = cc in
    sym (ap (gives_back_in (plain_of g.O.Operation.cmd_is c.args.core.now) c.args.node s) (ap (λ q. q.run.phase) (sym mine) ∙ c.in-Back.is))

pub returns-in-Off : goal.returns-in-Off
returns-in-Off g c s at =
    let here = told_at (state_of g.O.Operation.cmd_is) c.args.core.now.nodes.items c.args.node c.index.result.now c.requires.node.from c.requires.node.to c.index.ensures in
    let one : Some (state_of g.O.Operation.cmd_is c.index.result.now) ≡ Some s = sym here ∙ at in
    let mine : state_of g.O.Operation.cmd_is c.index.result.now ≡ s = cc in
    c.is_due_now.ensures s at ∙ sym (ap (gives_back_in (plain_of g.O.Operation.cmd_is c.args.core.now) c.args.node s) (ap (λ q. q.run.phase) (sym mine) ∙ c.in-Off.is))

pub returns-in_default : goal.returns-in_default
returns-in_default g c s at =
    let here = told_at (state_of g.O.Operation.cmd_is) c.args.core.now.nodes.items c.args.node c.index.result.now c.requires.node.from c.requires.node.to c.index.ensures in
    let one : Some (state_of g.O.Operation.cmd_is c.index.result.now) ≡ Some s = sym here ∙ at in
    let mine : state_of g.O.Operation.cmd_is c.index.result.now ≡ s = cc in
    none_gives (plain_of g.O.Operation.cmd_is c.args.core.now) c.args.node s (λ e. c.in_default.not-Off (ap (λ q. q.run.phase) mine ∙ e)) (λ e. c.in_default.not-Back (ap (λ q. q.run.phase) mine ∙ e))
