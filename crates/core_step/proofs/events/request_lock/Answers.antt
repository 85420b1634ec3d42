use Rattle.std.proofs.Common.{ap, ◌∙◌}
use Rattle.std.specs.Prelude.{not, filter}
use Rattle.lock_db.specs.Names.{is_same}
use Rattle.core_state.specs.Worlds.{state_of}
use Rattle.core_step.proofs.Lists.{removed}
use Rattle.core_step.proofs.events.request_lock.Goals as goal

pub returns-in-Err-clause-err : goal.returns-in-Err-clause-err
returns-in-Err-clause-err g c =
    let s = state_of g.O.Operation.cmd_is c.args.at.now in
    let locks = c.remove-in-Err.ensures ∙ ap (filter (λ l. not (is_same l.0 c.args.name))) c.in_ok-push.ensures.ok ∙ removed c.args.at.now.seen.locks c.args.name c.args.mode c.requires.unseen in
    (c.in-Err.ensures.err.0, (λ i. record s { asked = c.in-Err.ensures.err.1 i; seen = record s.seen { locks = locks i } }))
