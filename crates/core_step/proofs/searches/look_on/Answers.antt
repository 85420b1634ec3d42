use Rattle.std.proofs.Common.{◌≡◌, sym, ap, ◌∙◌}
use Rattle.core_state.specs.Worlds.{NodeState, state_of}
use Rattle.core_step.proofs.Lists.{popped}
use Rattle.core_step.proofs.searches.look_on.Goals as goal

pub returns-in-Err-clause-err : goal.returns-in-Err-clause-err
returns-in-Err-clause-err g c =
    let s = state_of g.O.Operation.cmd_is c.args.node.now in
    let pushed = c.in_ok-push.ensures.ok in
    let same = c.in-Err.ensures.err in
    let looked : c.decide_and_keep.new.node.run.looked ≡ c.push.new.self = ap (λ (y : NodeState). y.run.looked) same in
    ap (λ (y : NodeState). record y { run = record y.run { looked = c.pop-block.new.self } }) same
    ∙ ap (λ ls. record s { run = record s.run { looked = ls } })
    (popped c.args.node.now.run.looked c.pop-block.new.self (c.args.lbn, c.args.block.now) c.pop-block.result (sym pushed ∙ sym looked ∙ c.pop-block.ensures.last) (λ none. sym pushed ∙ sym looked ∙ c.pop-block.ensures.none none))
