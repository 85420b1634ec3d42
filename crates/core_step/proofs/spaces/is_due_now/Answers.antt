use Rattle.std.proofs.Common.{◌≡◌, Some, sym, ap, ◌∙◌}
use Rattle.std.specs.Prelude.{◌&&◌, is_none}
use Rattle.lock_db.specs.declared.name.LockName.TheVariants.{V}
use Rattle.plain_rules.specs.Own.{command_after}
use Rattle.core_space.specs.Rule.{is_due, is_reader, has_any}
use Rattle.core_space.specs.declared.run.SpaceLocks.{SpaceLocks}
use Rattle.core_state.specs.Worlds.{state_of, plain_of, or_next}
use Rattle.core_state.specs.Asks.{has_asked}
use Rattle.core_state.specs.Stocks.{roomless}
use Rattle.core_state.specs.Events.{space_locks, is_wanted, is_ended}
use Rattle.core_state.proofs.Nodes.{told_at}
use Rattle.core_step.proofs.Due.{cheap_tests}
use Rattle.core_step.proofs.spaces.is_due_now.Goals as goal

pub returns : goal.returns
returns g c s at =
    let here = told_at (state_of g.O.Operation.cmd_is) c.args.core.now.nodes.items c.args.node c.index-at.result.now c.requires.node.from c.requires.node.to c.index-at.ensures in
    let one : Some (state_of g.O.Operation.cmd_is c.index-at.result.now) ≡ Some s = sym here ∙ at in
    let mine : state_of g.O.Operation.cmd_is c.index-at.result.now ≡ s = cc in
    let locks = c.space_locks-locks.ensures ∙ ap space_locks mine in
    let asked = ap (has_asked V) c.items.ensures ∙ ap (λ q. has_asked V q.asked) mine in
    let up = is_wanted (plain_of g.O.Operation.cmd_is c.args.core.now) c.args.node in
    let through = is_ended (plain_of g.O.Operation.cmd_is c.args.core.now) c.args.node s in
    let wanted = c.is_wanted-wanted.ensures ∙ ap (λ b. b && up) c.is_reader.ensures ∙ ap (λ (l : SpaceLocks). is_reader l.x && up) locks in
    let busy = c.is_busy-busy.ensures ∙ (λ i. wanted i && asked i) in
    let past = (c.requires.good.nodes c.args.node s at).past in
    let left = ap (λ q. is_none (or_next q.cmd (command_after c.args.core.now.script c.args.node q.past))) mine ∙ ap (λ p. is_none (or_next s.cmd (command_after c.args.core.now.script c.args.node p))) past in
    let ended = c.is_through-ended.ensures ∙ (λ i. c.has_any.ensures i && left i) ∙ ap (λ q. has_any (roomless q.stock) && through) mine in
    c.is_due.ensures ∙ (λ i. is_due (locks i) (roomless (mine i).stock) (wanted i) (busy i) (ended i))
    ∙ cheap_tests (space_locks s) (roomless s.stock) up (has_asked V s.asked) through
