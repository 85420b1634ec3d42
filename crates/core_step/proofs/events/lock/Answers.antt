use Rattle.std.proofs.Common.{◌-◌, refl, ap, map, slice_set, ◌∙◌}
use Rattle.core_state.specs.Worlds.{state_of, plain_of}
use Rattle.core_state.proofs.Nodes.{told_at}
use Rattle.core_step.proofs.Steps.{on_ok, on_err, locked_so, kept}
use Rattle.core_step.proofs.events.lock.Goals as goal

pub request_lock-requires-clause-apart : goal.request_lock-requires-clause-apart
request_lock-requires-clause-apart g c = (c.requires.apart (state_of g.O.Operation.cmd_is c.index_mut-at.result.now) (told_at (state_of g.O.Operation.cmd_is) c.args.core.now.nodes.items c.args.node c.index_mut-at.result.now c.requires.node.from c.requires.node.to c.index_mut-at.ensures.value)).0

pub request_lock-requires-clause-unseen : goal.request_lock-requires-clause-unseen
request_lock-requires-clause-unseen g c = (c.requires.apart (state_of g.O.Operation.cmd_is c.index_mut-at.result.now) (told_at (state_of g.O.Operation.cmd_is) c.args.core.now.nodes.items c.args.node c.index_mut-at.result.now c.requires.node.from c.requires.node.to c.index_mut-at.ensures.value)).1

pub returns-clause-world : goal.returns-clause-world
returns-clause-world g c =
    let f = state_of g.O.Operation.cmd_is in
    let node = c.index_mut-at.result.now in
    on_ok c.request_lock.result _ _ (λ e.
    locked_so f c.args.core.now.nodes.items (plain_of g.O.Operation.cmd_is c.args.core.now) c.args.node node c.request_lock.new.at c.requires.node.from c.requires.node.to c.index_mut-at.ensures.value refl c.args.name c.args.mode c.request_lock.new.locks e.0 e.1) c.request_lock.ensures.ok

pub returns-clause-same : goal.returns-clause-same
returns-clause-same g c =
    let f = state_of g.O.Operation.cmd_is in
    on_err c.request_lock.result _ _ (λ e.
    ap (λ t. record (plain_of g.O.Operation.cmd_is c.args.core.now) { locks = t; nodes = map f (slice_set c.args.core.now.nodes.items (c.args.node - 1) c.request_lock.new.at) }) e.0
    ∙ kept f c.args.core.now.nodes.items (plain_of g.O.Operation.cmd_is c.args.core.now) c.args.node c.index_mut-at.result.now c.request_lock.new.at c.requires.node.from c.requires.node.to c.index_mut-at.ensures.value refl e.1) c.request_lock.ensures.err
