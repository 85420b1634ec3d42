use Rattle.std.proofs.Common.{◌≡◌, ◌||◌, Some, sym, ap, ◌∙◌}
use Rattle.std.specs.Prelude.{◌&&◌, not}
use Rattle.node_locks.specs.Held.{waits_at}
use Rattle.core_state.specs.Worlds.{state_of, plain_of}
use Rattle.core_state.specs.Events.{gives_back}
use Rattle.core_state.proofs.Nodes.{told_at}
use Rattle.core_step.proofs.spaces.stands.Goals as goal

pub returns-then-waits : goal.returns-then-waits
returns-then-waits g c s at =
    let here = told_at (state_of g.O.Operation.cmd_is) c.args.core.now.nodes.items c.args.node c.index-at.result.now c.requires.node.from c.requires.node.to c.index-at.ensures in
    let one : Some (state_of g.O.Operation.cmd_is c.index-at.result.now) ≡ Some s = sym here ∙ at in
    let mine : state_of g.O.Operation.cmd_is c.index-at.result.now ≡ s = cc in
    let claimed = c.waits.ensures ∙ ap (waits_at c.args.core.now.locks c.args.node) c.items.ensures ∙ ap (λ q. waits_at c.args.core.now.locks c.args.node q.claims) mine in
    c.if-waits.true ∙ sym (ap (λ k. k || (not (gives_back (plain_of g.O.Operation.cmd_is c.args.core.now) c.args.node s) && waits_at c.args.core.now.locks c.args.node s.asked)) (sym claimed ∙ c.if-waits.true))

pub returns-then-not-gives : goal.returns-then-not-gives
returns-then-not-gives g c s at =
    let here = told_at (state_of g.O.Operation.cmd_is) c.args.core.now.nodes.items c.args.node c.index-at.result.now c.requires.node.from c.requires.node.to c.index-at.ensures in
    let one : Some (state_of g.O.Operation.cmd_is c.index-at.result.now) ≡ Some s = sym here ∙ at in
    let mine : state_of g.O.Operation.cmd_is c.index-at.result.now ≡ s = cc in
    let claimed = c.waits.ensures ∙ ap (waits_at c.args.core.now.locks c.args.node) c.items.ensures ∙ ap (λ q. waits_at c.args.core.now.locks c.args.node q.claims) mine in
    let asked = c.waits-then-not-gives.ensures ∙ ap (waits_at c.args.core.now.locks c.args.node) c.items-then-not-gives.ensures ∙ ap (λ q. waits_at c.args.core.now.locks c.args.node q.asked) mine in
    let gives = sym (c.requires.gives s at) ∙ c.if-not-gives.true in
    asked ∙ sym (λ i. (sym claimed ∙ c.if-waits.false) i || (not (gives i) && waits_at c.args.core.now.locks c.args.node s.asked))

pub returns-else-not-gives : goal.returns-else-not-gives
returns-else-not-gives g c s at =
    let here = told_at (state_of g.O.Operation.cmd_is) c.args.core.now.nodes.items c.args.node c.index-at.result.now c.requires.node.from c.requires.node.to c.index-at.ensures in
    let one : Some (state_of g.O.Operation.cmd_is c.index-at.result.now) ≡ Some s = sym here ∙ at in
    let mine : state_of g.O.Operation.cmd_is c.index-at.result.now ≡ s = cc in
    let claimed = c.waits.ensures ∙ ap (waits_at c.args.core.now.locks c.args.node) c.items.ensures ∙ ap (λ q. waits_at c.args.core.now.locks c.args.node q.claims) mine in
    let gives = sym (c.requires.gives s at) ∙ c.if-not-gives.false in
    ap not c.if-not-gives.false ∙ sym (λ i. (sym claimed ∙ c.if-waits.false) i || (not (gives i) && waits_at c.args.core.now.locks c.args.node s.asked))
