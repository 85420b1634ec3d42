use Rattle.std.proofs.Common.{◌+◌, ◌∙◌, sym, ap, subst, arith}
use Rattle.rows_ops.specs.Alone.{IsMet, Searches}
use Rattle.rows_ops.proofs.Meeting.{fits, look_within, bare_within, few_met}
use Rattle.rows_ops.proofs.alone.run_alone.Goals.{in-Lock+in_ok-lock-in-Lock, in-Block+in_ok-look-in-Block, in-Bare+in_ok-look-in-Bare}
use Rattle.rows_ops.proofs.alone.run_alone.Goals as goal

pub returns-in_default : goal.returns-in_default
returns-in_default g c = rw c.in_default.is at c.in_ok-seen.ensures

pub next-requires : goal.next-requires
next-requires g c = fits (g.O.Operation.cmd_is c.args.op.now) c.loop.seen c.args.blocks.now c.loop.invariant.alone.fits

pub look-requires-clause-within : goal.look-requires-clause-within
look-requires-clause-within g c =
    look_within (g.O.Operation.cmd_is c.args.op.now) c.args.blocks.now c.loop.seen c.in-Block.field-0 c.in-Block.lbn c.requires.lawful c.loop.invariant.alone (c.in_ok-name.ensures ∙ c.in-Block.is)

pub look-requires-in-Bare-clause-within : goal.look-requires-in-Bare-clause-within
look-requires-in-Bare-clause-within g c =
    bare_within (g.O.Operation.cmd_is c.args.op.now) c.args.blocks.now c.loop.seen c.in-Bare.lbn c.requires.lawful c.loop.invariant.alone (c.in_ok-name.ensures ∙ c.in-Bare.is)

pub returns-in-Space : goal.returns-in-Space
returns-in-Space g c = Searches c.loop.seen c.in-Space.clusters c.in-Space.number c.loop.invariant.alone (c.in_ok-name.ensures ∙ c.in-Space.is)

pub loop-preserved : goal.loop-preserved
loop-preserved g c =
    let x = g.O.Operation.cmd_is c.args.op.now in
    let bs = c.args.blocks.now in
    let met : IsMet x bs c.loop.seen c.match-branch-4.seen = elim c.match-branch-4.branch [
      | in-Lock+in_ok-lock-in-Lock w ↦ subst (λ s. IsMet x bs c.loop.seen s) (sym w.seen-is) w.in_ok-lock-in-Lock.ensures
      | in-Block+in_ok-look-in-Block w ↦ subst (λ s. IsMet x bs c.loop.seen s) (sym w.seen-is) w.in_ok-look-in-Block.ensures
      | in-Bare+in_ok-look-in-Bare w ↦ subst (λ s. IsMet x bs c.loop.seen s) (sym w.seen-is) w.in_ok-look-in-Bare.ensures
    ] in
    record { order = c.loop.invariant.order; alone = met.alone; met = met.more ∙ ap (λ n. n + 1) c.loop.invariant.met }

pub unreachable-requires : goal.unreachable-requires
unreachable-requires g c =
    let few = few_met (g.O.Operation.cmd_is c.args.op.now) c.args.blocks.now c.loop.seen c.requires.lawful c.loop.invariant.alone in
    let met = c.loop.invariant.met in
    let end = c.loop-test.false in
    absurd (omega arith)
