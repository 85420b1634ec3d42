use Rattle.std.proofs.Common.{sym, subst}
use Rattle.rows_ops.specs.Alone.{IsMet}
use Rattle.rows_ops.proofs.Meeting.{locked_alone}
use Rattle.rows_ops.proofs.alone.lock.Goals as goal

pub returns : goal.returns
returns g c =
    let x = g.O.Operation.cmd_is c.args.op.now in
    let seen = c.args.seen.now in
    subst (λ ls. IsMet x c.args.blocks.now seen (record seen { locks = ls })) (sym c.in_ok-push.ensures.ok)
    (locked_alone x c.args.blocks.now seen c.args.name c.args.mode c.requires.lawful c.requires.alone c.requires.need)
