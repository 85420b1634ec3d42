use Rattle.std.proofs.Common.{refl}
use Rattle.lock_db.specs.declared.name.LockName.TheVariants.{V}
use Rattle.lock_db.specs.Tables.{resource_at}
use Rattle.node_cache.specs.Cached.{found}
use Rattle.core_state.specs.Caches.{sequence_now}
use Rattle.core_state.specs.Worlds.{state_of, plain_of}
use Rattle.core_state.proofs.Nodes.{told_at}
use Rattle.core_step.proofs.Caching.{space_used_so, current_found}
use Rattle.core_step.proofs.Steps.{on_ok, on_err, kept}
use Rattle.core_step.proofs.searches.space_use.Goals as goal

pub use_on-requires-clause-geometry : goal.use_on-requires-clause-geometry
use_on-requires-clause-geometry g c =
    c.requires.geometry (state_of g.O.Operation.cmd_is c.index_mut.result.now) (told_at (state_of g.O.Operation.cmd_is) c.args.core.now.nodes.items c.args.node c.index_mut.result.now c.requires.node.from c.requires.node.to c.index_mut.ensures.value)

pub returns-clause-world : goal.returns-clause-world
returns-clause-world g c =
    let at = told_at (state_of g.O.Operation.cmd_is) c.args.core.now.nodes.items c.args.node c.index_mut.result.now c.requires.node.from c.requires.node.to c.index_mut.ensures.value in
    let s = state_of g.O.Operation.cmd_is c.index_mut.result.now in
    let core = c.args.core.now in
    let seq = sequence_now core.geometry core.locks V c.args.lbn in
    on_ok c.use_on.result _ _ (λ e current.
    let there = current_found (resource_at V core.locks).valid (found c.args.lbn V seq s.cache) (current s at).1 in
    space_used_so (state_of g.O.Operation.cmd_is) core.nodes.items (plain_of g.O.Operation.cmd_is core) c.args.node c.index_mut.result.now c.use_on.new.node c.requires.node.from c.requires.node.to c.index_mut.ensures.value refl
    c.args.need.clusters c.args.need.number c.args.lbn c.args.block.now seq (current s at).0 refl (e seq there)) c.use_on.ensures.ok

pub returns-clause-same : goal.returns-clause-same
returns-clause-same g c = on_err c.use_on.result _ _ (λ e. kept (state_of g.O.Operation.cmd_is) c.args.core.now.nodes.items (plain_of g.O.Operation.cmd_is c.args.core.now) c.args.node c.index_mut.result.now c.use_on.new.node c.requires.node.from c.requires.node.to c.index_mut.ensures.value refl e) c.use_on.ensures.err
