use Rattle.std.proofs.Common.{◌≡◌, ◌+◌, ◌-◌, suc, length, arith, sym, ◌∙◌}
use Rattle.lock_db.specs.Queues.{granted_upto}
use Rattle.lock_db.proofs.Settling.{granted_upto_stop, granted_upto_on}
use Rattle.lock_db.proofs.queues.settle.Goals as goal

pub returns-then-not-grant_one : goal.returns-then-not-grant_one
returns-then-not-grant_one c =
    let k = length c.args.all.now - c.loop.counter in
    let e : k + c.loop.counter ≡ length c.args.all.now = omega arith in
    c.if-not-grant_one.ensures.1 ∙ sym (granted_upto_stop k c.loop.all c.if-not-grant_one.ensures.0) ∙ c.loop.invariant.left k e

pub loop-preserved : goal.loop-preserved
loop-preserved c = record {
  left = λ k e. sym (granted_upto_on k c.loop.all c.grant_one.new.all c.if-not-grant_one.ensures) ∙ c.loop.invariant.left (suc k) (omega arith);
  most_is = c.loop.invariant.most_is;
}

pub returns : goal.returns
unfolding granted_upto
returns c = c.loop.invariant.left 0 (omega arith)
