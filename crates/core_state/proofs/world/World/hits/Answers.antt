use Rattle.std.proofs.Common.{ap, sym}
use Rattle.core_state.specs.Worlds.{state_of}
use Rattle.core_state.specs.Events.{counted_in}
use Rattle.core_state.proofs.Nodes.{node_told}
use Rattle.core_state.proofs.world.World.hits.Goals as goal

pub returns : goal.returns
returns g c =
    let at = node_told (state_of g.O.Operation.cmd_is) c.self.inside.core.nodes.items c.args.self.now.world.nodes c.args.node c.index.result.now (sym (ap (λ h. h.world.nodes) c.self.view_is)) c.requires.from c.requires.to c.index.ensures in
    sym (ap (counted_in (λ s. s.hits)) at)
