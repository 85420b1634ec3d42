use Rattle.std.proofs.Common.{refl}
use Rattle.std.proofs.lemmas.Result.{err_from_is_err_and}
use Rattle.vol_repair.proofs.Stepping.{step_none, next_well, next_out}
use Rattle.vol_repair.proofs.Departing.{tells_so}
use Rattle.vol_repair.proofs.Leavers.{one_gone, one_alike, all_gone}
use Rattle.vol_repair.proofs.removing.remove_entries.Goals as goal

pub loop-l-init : goal.loop-l-init
loop-l-init g c = record {
  step = step_none _ _ _ ⊥ (λ n. n) (tells_so c.args.g.now c.args.m.now.blocks c.args.cat.now c.args.cat.now c.requires.told refl);
  told = c.requires.told;
  alike = refl;
  left = refl;
}

pub returns-in_err-remove-clause-step : goal.returns-in_err-remove-clause-step
returns-in_err-remove-clause-step g c =
    let p = err_from_is_err_and c.from_residual.result c.from_residual.ensures.1 in
    next_out _ _ _ _ _ _ _ _ _ _ _ _ _ refl p.1 p.2 c.loop-l.invariant.step (c.in_err-remove.ensures.step c.args.cat.now c.loop-l.invariant.alike)

pub loop-l-preserved : goal.loop-l-preserved
loop-l-preserved g c = record {
  step = next_well _ _ _ _ _ _ _ _ _ _ _ refl c.loop-l.invariant.step (c.in_ok-remove.ensures.step c.args.cat.now c.loop-l.invariant.alike);
  told = c.in_ok-remove.ensures.told;
  alike = one_alike c.loop-l.cat c.remove.new.cat c.args.cat.now c.l-item.result c.in_ok-remove.ensures.cat c.loop-l.invariant.alike;
  left = one_gone c.loop-l.cat c.remove.new.cat c.args.cat.now c.args.leavers.now c.loop-l.l-index c.l-item.result c.loop-l-test.true c.l-item.is c.in_ok-remove.ensures.cat c.loop-l.invariant.left;
}

pub returns-clause-cat : goal.returns-clause-cat
returns-clause-cat g c = all_gone c.loop-l.cat c.args.cat.now c.args.leavers.now c.loop-l.l-index c.loop-l-test.false c.loop-l.invariant.left
