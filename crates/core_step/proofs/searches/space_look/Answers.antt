use Rattle.std.proofs.Common.{refl}
use Rattle.core_state.specs.Worlds.{state_of, plain_of}
use Rattle.core_state.proofs.Nodes.{told_at}
use Rattle.core_step.proofs.Caching.{space_looked_so}
use Rattle.core_step.proofs.Steps.{on_ok, on_err, kept}
use Rattle.core_step.proofs.searches.space_look.Goals as goal

pub look_on-requires-clause-geometry : goal.look_on-requires-clause-geometry
look_on-requires-clause-geometry g c =
    c.requires.geometry (state_of g.O.Operation.cmd_is c.index_mut.result.now) (told_at (state_of g.O.Operation.cmd_is) c.args.core.now.nodes.items c.args.node c.index_mut.result.now c.requires.node.from c.requires.node.to c.index_mut.ensures.value)

pub returns-clause-world : goal.returns-clause-world
returns-clause-world g c = on_ok c.look_on.result _ _ (λ e. space_looked_so (state_of g.O.Operation.cmd_is) c.args.core.now.nodes.items (plain_of g.O.Operation.cmd_is c.args.core.now) c.args.node c.index_mut.result.now c.look_on.new.node c.requires.node.from c.requires.node.to c.index_mut.ensures.value refl
    c.args.need.clusters c.args.need.number c.args.lbn c.read.result.now c.args.seq c.read.ensures c.requires.kept e) c.look_on.ensures.ok

pub returns-clause-same : goal.returns-clause-same
returns-clause-same g c = on_err c.look_on.result _ _ (λ e. kept (state_of g.O.Operation.cmd_is) c.args.core.now.nodes.items (plain_of g.O.Operation.cmd_is c.args.core.now) c.args.node c.index_mut.result.now c.look_on.new.node c.requires.node.from c.requires.node.to c.index_mut.ensures.value refl e) c.look_on.ensures.err
