use Rattle.std.proofs.Common.{refl}
use Rattle.core_state.specs.Worlds.{state_of, plain_of}
use Rattle.core_step.proofs.Caching.{looked_so}
use Rattle.core_step.proofs.Steps.{on_ok, on_err, kept}
use Rattle.core_step.proofs.events.look.Goals as goal

pub returns-clause-world : goal.returns-clause-world
returns-clause-world g c = on_ok c.keep_looked.result _ _ (λ e. looked_so (state_of g.O.Operation.cmd_is) c.args.core.now.nodes.items (plain_of g.O.Operation.cmd_is c.args.core.now) c.args.node c.index_mut.result.now c.keep_looked.new.node c.requires.node.from c.requires.node.to c.index_mut.ensures.value refl
    c.args.name c.args.lbn c.read.result.now c.args.seq c.read.ensures c.requires.kept e) c.keep_looked.ensures.ok

pub returns-clause-same : goal.returns-clause-same
returns-clause-same g c = on_err c.keep_looked.result _ _ (λ e. kept (state_of g.O.Operation.cmd_is) c.args.core.now.nodes.items (plain_of g.O.Operation.cmd_is c.args.core.now) c.args.node c.index_mut.result.now c.keep_looked.new.node c.requires.node.from c.requires.node.to c.index_mut.ensures.value refl e) c.keep_looked.ensures.err
