use Rattle.std.proofs.Common.{◌-◌, true, refl, ap, map, slice_set, ◌∙◌}
use Rattle.lock_db.specs.declared.name.LockName.TheVariants.{A}
use Rattle.node_locks.specs.Taking.{taken}
use Rattle.core_state.specs.Worlds.{state_of, plain_of}
use Rattle.core_state.specs.Events.{turned}
use Rattle.core_state.proofs.Nodes.{told_at}
use Rattle.core_step.specs.Asks.{noted}
use Rattle.core_step.specs.declared.asks.Aim.{Aim}
use Rattle.core_step.proofs.Steps.{on_ok, on_err, asked_so, kept, noted_so}
use Rattle.core_step.proofs.events.ask.Goals as goal

pub request_ask-requires-clause-apart : goal.request_ask-requires-clause-apart
request_ask-requires-clause-apart g c = (c.requires.apart (state_of g.O.Operation.cmd_is c.index_mut-at.result.now) (told_at (state_of g.O.Operation.cmd_is) c.args.core.now.nodes.items c.args.node c.index_mut-at.result.now c.requires.node.from c.requires.node.to c.index_mut-at.ensures.value))

pub returns-clause-world : goal.returns-clause-world
returns-clause-world g c =
    let f = state_of g.O.Operation.cmd_is in
    let node = c.index_mut-at.result.now in
    on_ok c.request_ask.result _ _ (λ e x a aim.
    let table = e.0 ∙ ap (λ (k : Aim). taken (A k.file) (record { node = c.args.node; part = k.chan }) k.mode c.args.core.now.locks) aim in
    let locks = ap (λ (k : Aim). noted node.asked k.chan (A k.file) k.mode) aim ∙ noted_so node.asked a in
    ap (λ t. record (plain_of g.O.Operation.cmd_is c.args.core.now) { locks = t; nodes = map f (slice_set c.args.core.now.nodes.items (c.args.node - 1) c.request_ask.new.at) }) table
    ∙ asked_so f c.args.core.now.nodes.items (plain_of g.O.Operation.cmd_is c.args.core.now) c.args.node node c.request_ask.new.at c.requires.node.from c.requires.node.to c.index_mut-at.ensures.value refl x a (c.requires.goes a aim) (e.1 ∙ ap (λ ls. turned (record (f node) { asked = ls; tried = true })) locks)) c.request_ask.ensures.ok

pub returns-clause-same : goal.returns-clause-same
returns-clause-same g c =
    let f = state_of g.O.Operation.cmd_is in
    on_err c.request_ask.result _ _ (λ e.
    ap (λ t. record (plain_of g.O.Operation.cmd_is c.args.core.now) { locks = t; nodes = map f (slice_set c.args.core.now.nodes.items (c.args.node - 1) c.request_ask.new.at) }) e.0
    ∙ kept f c.args.core.now.nodes.items (plain_of g.O.Operation.cmd_is c.args.core.now) c.args.node c.index_mut-at.result.now c.request_ask.new.at c.requires.node.from c.requires.node.to c.index_mut-at.ensures.value refl e.1) c.request_ask.ensures.err
