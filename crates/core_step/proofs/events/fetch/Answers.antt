use Rattle.std.proofs.Common.{refl}
use Rattle.core_state.specs.Worlds.{state_of, plain_of}
use Rattle.core_step.proofs.Steps.{on_ok, on_err, fetched_so, kept}
use Rattle.core_step.proofs.events.fetch.Goals as goal

pub returns-clause-world : goal.returns-clause-world
returns-clause-world g c = on_ok c.keep_block.result _ _ (λ e. fetched_so (state_of g.O.Operation.cmd_is) c.args.core.now.nodes.items (plain_of g.O.Operation.cmd_is c.args.core.now) c.args.node c.index_mut.result.now c.keep_block.new.node c.requires.node.from c.requires.node.to c.index_mut.ensures.value refl c.args.lbn c.read.result.now c.read.ensures e) c.keep_block.ensures.ok

pub returns-clause-same : goal.returns-clause-same
returns-clause-same g c = on_err c.keep_block.result _ _ (λ e. kept (state_of g.O.Operation.cmd_is) c.args.core.now.nodes.items (plain_of g.O.Operation.cmd_is c.args.core.now) c.args.node c.index_mut.result.now c.keep_block.new.node c.requires.node.from c.requires.node.to c.index_mut.ensures.value refl e) c.keep_block.ensures.err
