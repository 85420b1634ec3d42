use Rattle.std.proofs.Common.{sym, arith}
use Rattle.op_steps.proofs.Charges.{quota_place, no_quota_place}
use Rattle.op_steps.proofs.quotas.quota_lbn.Goals as goal

pub returns-then-at-g : goal.returns-then-at-g
returns-then-at-g c = let t = c.if-at-g.true in sym (quota_place c.args.g.now c.args.at (omega arith))

pub returns-else-at-g : goal.returns-else-at-g
returns-else-at-g c = let t = c.if-at-g.false in sym (no_quota_place c.args.g.now c.args.at (omega arith))
