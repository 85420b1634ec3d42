use Rattle.std.proofs.Common.{sym, subst}
use Rattle.rows_ops.specs.Alone.{IsSeenOpen}
use Rattle.rows_ops.proofs.Meeting.{fits}
use Rattle.rows_ops.proofs.on_channel.run_on_channel.Goals.{in-Lock+in_ok-lock-in-Lock, in-Block+in_ok-look-in-Block, in-Bare+in_ok-look-in-Bare}
use Rattle.rows_ops.proofs.on_channel.run_on_channel.Goals as goal

pub next-requires : goal.next-requires
next-requires g c = fits (g.O.Operation.cmd_is c.args.op.now) c.loop.seen c.args.blocks.now c.loop.invariant.fits

pub loop-preserved : goal.loop-preserved
loop-preserved g c =
    let x = g.O.Operation.cmd_is c.args.op.now in
    let bs = c.args.blocks.now in
    elim c.match-branch-4.branch [
      | in-Lock+in_ok-lock-in-Lock w ↦ subst (λ s. IsSeenOpen x bs s) (sym w.seen-is) w.in_ok-lock-in-Lock.ensures
      | in-Block+in_ok-look-in-Block w ↦ subst (λ s. IsSeenOpen x bs s) (sym w.seen-is) w.in_ok-look-in-Block.ensures
      | in-Bare+in_ok-look-in-Bare w ↦ subst (λ s. IsSeenOpen x bs s) (sym w.seen-is) w.in_ok-look-in-Bare.ensures
    ]
