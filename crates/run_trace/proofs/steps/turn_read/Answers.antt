use Rattle.std.proofs.Common.{◌∙◌, ◌++◌, sym, ap}
use Rattle.core_state.specs.Worlds.{state_of}
use Rattle.run_trace.specs.Reads.{turn_read, read_in}
use Rattle.run_trace.specs.Steps.{last_entry}
use Rattle.run_trace.proofs.Shows.{turn_shown}
use Rattle.run_trace.proofs.steps.turn_read.Goals as goal

pub returns : goal.returns
returns g c =
    let x = c.args.w.now.world in
    let n = c.args.node in
    let s = state_of g.O.Operation.cmd_is c.node_of-at.result.now in
    let locks = ap (λ h. h.world.locks) c.w.view_is in
    c.in_ok-push_turn.ensures
    ∙ ((λ i. c.new-text.ensures.items i ++ turn_read c.args.mark c.args.turn c.w.inside.core.locks c.nodes_of-count.result (last_entry c.history.result.now.items) n s)
    ∙ (turn_shown c.args.mark c.args.turn c.w.inside.core.locks c.nodes_of-count.result c.history.result.now.items n s
    ∙ ((λ i. turn_read c.args.mark c.args.turn (locks i) (c.nodes_of-count.ensures.count i) (last_entry (c.history.ensures i)) n s)
    ∙ sym (ap (read_in c.args.mark c.args.turn x n) c.node_of-at.ensures))))
