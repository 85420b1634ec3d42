use Rattle.std.proofs.Common.{◌∙◌, true, length, set, ap, sym, arith}
use Rattle.std.specs.Prelude.{List, Bool}
use Rattle.vol_repair.proofs.Flagged.{either_none, length_either, joined_set, joined_skip, joined_all}
use Rattle.vol_repair.proofs.reaching.join.Goals as goal
use Rattle.vol_repair.proofs.reaching.join.Goals.{then-flag_at, else-flag_at}

pub loop-i-init : goal.loop-i-init
loop-i-init c = sym (either_none c.args.row.now)

pub set-requires : goal.set-requires
set-requires c =
    let e = ap length c.loop-i.invariant ∙ length_either c.args.row.now _ in
    let len = ap length c.items-i-end.ensures in
    let test = c.loop-i-test.true in
    omega (arith, e, len, test)

pub loop-i-preserved : goal.loop-i-preserved
loop-i-preserved c = elim c.if-flag_at.branch [
  | then-flag_at w ↦ (let len = ap length c.items-i-end.ensures in
      let test = c.loop-i-test.true in
      w.row-is ∙ (w.set.ensures ∙ (ap (λ (r : List Bool). set r c.loop-i.i true) c.loop-i.invariant
      ∙ joined_set c.args.row.now c.args.other.now c.loop-i.i (omega (arith, len, test)) (sym c.flag_at.ensures ∙ w.if-flag_at.true))))
  | else-flag_at w ↦ w.row-is ∙ (c.loop-i.invariant ∙ joined_skip c.args.row.now c.args.other.now c.loop-i.i (sym c.flag_at.ensures ∙ w.if-flag_at.false))
]

pub returns : goal.returns
returns c =
    let len = ap length c.items-i-end.ensures in
    let test = c.loop-i-test.false in
    let end = c.loop-i.auto.i-end in
    c.loop-i.invariant ∙ joined_all c.args.row.now c.args.other.now c.loop-i.i (omega (arith, len, test, end))
