use Rattle.std.proofs.Common.{◌||◌, ap, sym, ◌∙◌}
use Rattle.core_state.specs.Worlds.{state_of}
use Rattle.core_state.specs.Events.{is_over_in}
use Rattle.core_state.proofs.Nodes.{node_told}
use Rattle.core_state.proofs.world.World.is_over.Goals as goal

pub returns-then-node : goal.returns-then-node
returns-then-node g c =
    let at = node_told (state_of g.O.Operation.cmd_is) c.self.inside.core.nodes.items c.args.self.now.world.nodes c.args.node c.index-node.result.now (sym (ap (λ h. h.world.nodes) c.self.view_is)) c.requires.from c.requires.to c.index-node.ensures in
    c.if-node.true ∙ sym (ap is_over_in at ∙ ap (λ t. t || c.index-node.result.now.past.dead) c.if-node.true)

pub returns-else-node : goal.returns-else-node
returns-else-node g c =
    let at = node_told (state_of g.O.Operation.cmd_is) c.self.inside.core.nodes.items c.args.self.now.world.nodes c.args.node c.index-node.result.now (sym (ap (λ h. h.world.nodes) c.self.view_is)) c.requires.from c.requires.to c.index-node.ensures in
    c.is_dead.ensures ∙ sym (ap is_over_in at ∙ ap (λ t. t || c.index-node.result.now.past.dead) c.if-node.false)
