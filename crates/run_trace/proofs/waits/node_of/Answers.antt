use Rattle.std.proofs.Common.{ap, sym}
use Rattle.core_state.specs.Worlds.{state_of}
use Rattle.core_state.proofs.Nodes.{node_told}
use Rattle.run_trace.proofs.waits.node_of.Goals as goal

pub returns : goal.returns
returns g c =
    node_told (state_of g.O.Operation.cmd_is) c.w.inside.core.nodes.items c.args.w.now.world.nodes c.args.node c.index.result.now (sym (ap (λ h. h.world.nodes) c.w.view_is)) c.requires.from c.requires.to c.index.ensures
