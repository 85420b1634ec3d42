use Rattle.std.proofs.Common.{ap, ◌∙◌}
use Rattle.lock_db.specs.declared.name.LockName.TheVariants.{A}
use Rattle.core_state.specs.Worlds.{state_of}
use Rattle.core_step.specs.Asks.{unnoted}
use Rattle.core_step.proofs.Steps.{unnoted_so}
use Rattle.core_step.proofs.events.request_ask.Goals as goal

pub returns-in-Err-clause-err : goal.returns-in-Err-clause-err
returns-in-Err-clause-err g c =
    let s = state_of g.O.Operation.cmd_is c.args.at.now in
    let locks = c.unnote.ensures ∙ ap (λ ls. unnoted ls c.args.aim.chan (A c.args.aim.file)) c.in_ok-note.ensures.ok ∙ unnoted_so c.args.at.now.asked c.args.aim.chan (A c.args.aim.file) c.args.aim.mode c.requires.apart in
    (c.in-Err.ensures.err, (λ i. record s { asked = locks i }))
