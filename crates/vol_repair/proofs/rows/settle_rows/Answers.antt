use Rattle.std.proofs.Common.{◌≡◌, ◌*◌, refl, arith}
use Rattle.std.proofs.lemmas.Result.{err_from_is_err_and}
use Rattle.vol_repair.proofs.Stepping.{next_well, next_out}
use Rattle.vol_repair.proofs.RowWrites.{body_length}
use Rattle.vol_repair.proofs.RowSettling.{settled_more, settled_all}
use Rattle.vol_repair.proofs.rows.settle_rows.Goals as goal

pub returns-in_err-settle_row-clause-step : goal.returns-in_err-settle_row-clause-step
returns-in_err-settle_row-clause-step g c first ground =
    let p = err_from_is_err_and c.from_residual.result c.from_residual.ensures.1 in
    next_out _ _ _ _ _ _ _ _ _ _ _ _ _ refl p.1 p.2 (c.loop-j.invariant.step first ground) (c.in_err-settle_row.ensures.step first (c.loop-j.invariant.settled first ground).ground)

pub loop-j-preserved : goal.loop-j-preserved
loop-j-preserved g c = record {
  step = λ first ground. next_well _ _ _ _ _ _ _ _ _ _ _ refl (c.loop-j.invariant.step first ground) (c.in_ok-settle_row.ensures.step first (c.loop-j.invariant.settled first ground).ground);
  settled = λ first ground.
      let w = c.loop-j.invariant.settled first ground in
      settled_more c.args.home.now first c.args.m.now.blocks c.loop-j.m.blocks c.settle_row.new.m.blocks c.loop-j.j c.loop-j.seen.items c.settle_row.new.seen.items w (c.in_ok-settle_row.ensures.ok first w.ground);
}

pub returns-clause-ok : goal.returns-clause-ok
returns-clause-ok g c first ground =
    let all = c.loop-j-test.false in
    let few = c.loop-j.auto.j-end in
    let count = c.row_count-j-end.ensures in
    let end : c.loop-j.j ≡ 16 * c.args.home.now.cluster = omega (arith, all, few, count) in
    settled_all c.args.home.now first c.args.m.now.blocks c.loop-j.m.blocks c.args.home.now.cluster c.loop-j.j c.loop-j.seen.items (body_length c.args.home.now first c.requires.limits c.args.m.now.blocks ground) end
    (c.loop-j.invariant.settled first ground)
