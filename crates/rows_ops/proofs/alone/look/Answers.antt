use Rattle.std.proofs.Common.{[], sym, subst, get_or}
use Rattle.std.proofs.lemmas.Option.{slice_get-get_or}
use Rattle.rows_ops.specs.Alone.{IsMet}
use Rattle.rows_ops.proofs.Meeting.{looked_alone}
use Rattle.rows_ops.proofs.alone.look.Goals as goal

pub returns : goal.returns
returns g c =
    let x = g.O.Operation.cmd_is c.args.op.now in
    let seen = c.args.seen.now in
    let at = slice_get-get_or c.args.blocks.now c.args.lbn [] c.requires.within in
    subst (λ bs. IsMet x c.args.blocks.now seen (record seen { blocks = bs })) (sym c.in_ok-push.ensures.ok)
    (looked_alone x c.args.blocks.now seen c.args.lbn (get_or c.args.blocks.now c.args.lbn []) c.requires.lawful c.requires.alone c.requires.need at)
