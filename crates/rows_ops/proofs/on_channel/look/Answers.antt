use Rattle.std.proofs.Common.{[], sym, subst, get_or}
use Rattle.std.proofs.lemmas.Option.{slice_get-get_or}
use Rattle.rows_ops.specs.Alone.{IsSeenOpen}
use Rattle.rows_ops.proofs.Meeting.{looked}
use Rattle.rows_ops.proofs.on_channel.look.Goals as goal

pub returns : goal.returns
returns g c =
    let x = g.O.Operation.cmd_is c.args.op.now in
    let seen = c.args.seen.now in
    let all = c.args.blocks.now in
    let at = slice_get-get_or all c.args.lbn [] c.requires.within in
    subst (λ bs. IsSeenOpen x all (record seen { blocks = bs })) (sym c.in_ok-push.ensures.ok)
    (record { fits = looked x seen all c.args.lbn (get_or all c.args.lbn []) c.requires.lawful c.requires.fits.fits c.requires.fits.short c.requires.need at; short = c.requires.fits.short })
