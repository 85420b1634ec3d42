use Rattle.std.proofs.Common.{sym, subst}
use Rattle.rows_ops.specs.Alone.{IsSeenOpen}
use Rattle.rows_ops.proofs.Meeting.{locked}
use Rattle.rows_ops.proofs.on_channel.lock.Goals as goal

pub returns : goal.returns
returns g c =
    let x = g.O.Operation.cmd_is c.args.op.now in
    let seen = c.args.seen.now in
    let all = c.args.blocks.now in
    subst (λ ls. IsSeenOpen x all (record seen { locks = ls })) (sym c.in_ok-push.ensures.ok)
    (record { fits = locked x seen all c.args.name c.args.mode c.requires.lawful c.requires.fits.fits c.requires.need; short = c.requires.fits.short })
