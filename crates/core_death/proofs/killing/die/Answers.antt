use Rattle.std.proofs.Common.{◌-◌, map, slice_set, sym, ap, ◌∙◌, refl}
use Rattle.lock_db.specs.Tables.{dropped}
use Rattle.core_state.specs.Worlds.{state_of, plain_of, shown}
use Rattle.core_state.specs.Deaths.{death_of}
use Rattle.core_state.proofs.Nodes.{told_at}
use Rattle.core_death.proofs.Ending.{died_so, same_state}
use Rattle.core_death.proofs.killing.die.Goals as goal

pub entry_of-entry-requires-clause-few : goal.entry_of-entry-requires-clause-few
entry_of-entry-requires-clause-few g c =
    let f = state_of g.O.Operation.cmd_is in
    (c.requires.state (f c.index.result.now) (told_at f c.args.core.now.nodes.items c.args.node c.index.result.now c.requires.node.from c.requires.node.to c.index.ensures)).few

pub returns-clause-world : goal.returns-clause-world
returns-clause-world g c =
    let f = state_of g.O.Operation.cmd_is in
    let xs = c.args.core.now.nodes.items in
    let n = c.args.node in
    let from = c.requires.node.from in
    let to = c.requires.node.to in
    let was = told_at f xs n c.index.result.now from to c.index.ensures in
    let is = told_at f xs n c.index_mut.result.now from to c.index_mut.ensures.value in
    ap (λ t. record (plain_of g.O.Operation.cmd_is c.args.core.now) { history = map shown c.append.new.self.items; locks = t; nodes = map f (slice_set xs (n - 1) c.bury.new.node) }) c.drop_node.ensures
    ∙ ap (λ h. record (plain_of g.O.Operation.cmd_is c.args.core.now) { history = map shown h; locks = dropped n c.args.core.now.locks; nodes = map f (slice_set xs (n - 1) c.bury.new.node) }) c.append.ensures.items
    ∙ died_so f xs (plain_of g.O.Operation.cmd_is c.args.core.now) n c.index_mut.result.now c.bury.new.node from to c.index_mut.ensures.value refl c.args.core.now.history.items c.entry_of-entry.result refl
    (c.entry_of-entry.ensures ∙ (c.requires.state (f c.index.result.now) was).told ∙ ap (death_of n) (same_state (f c.index.result.now) (f c.index_mut.result.now) (sym was ∙ is))) c.bury.ensures
