use Rattle.std.proofs.Common.{refl}
use Rattle.lock_db.specs.Tables.{resource_at}
use Rattle.node_cache.specs.Cached.{found}
use Rattle.core_state.specs.Caches.{sequence_now}
use Rattle.core_state.specs.Worlds.{state_of, plain_of}
use Rattle.core_state.proofs.Nodes.{told_at}
use Rattle.core_step.proofs.Caching.{used_so, current_found}
use Rattle.core_step.proofs.Steps.{on_ok, on_err, kept}
use Rattle.core_step.proofs.events.use_block.Goals as goal

pub returns-clause-world : goal.returns-clause-world
returns-clause-world g c =
    let at = told_at (state_of g.O.Operation.cmd_is) c.args.core.now.nodes.items c.args.node c.index_mut.result.now c.requires.node.from c.requires.node.to c.index_mut.ensures.value in
    let s = state_of g.O.Operation.cmd_is c.index_mut.result.now in
    let core = c.args.core.now in
    on_ok c.keep_used.result _ _ (λ e name current.
    let seq = sequence_now core.geometry core.locks name c.args.lbn in
    let there = current_found (resource_at name core.locks).valid (found c.args.lbn name seq s.cache) (current s at).1 in
    used_so (state_of g.O.Operation.cmd_is) core.nodes.items (plain_of g.O.Operation.cmd_is core) c.args.node c.index_mut.result.now c.keep_used.new.node c.requires.node.from c.requires.node.to c.index_mut.ensures.value refl
    name c.args.lbn c.args.block.now seq (current s at).0 refl (e name seq there)) c.keep_used.ensures.ok

pub returns-clause-same : goal.returns-clause-same
returns-clause-same g c = on_err c.keep_used.result _ _ (λ e. kept (state_of g.O.Operation.cmd_is) c.args.core.now.nodes.items (plain_of g.O.Operation.cmd_is c.args.core.now) c.args.node c.index_mut.result.now c.keep_used.new.node c.requires.node.from c.requires.node.to c.index_mut.ensures.value refl e) c.keep_used.ensures.err
