use Rattle.std.proofs.Common.{arith}
use Rattle.vol_mends.specs.Rows.{summed}
use Rattle.vol_rebuild.proofs.Setting.{rows_all}
use Rattle.vol_rebuild.proofs.rows.summed_block.Goals as goal

pub returns : goal.returns
returns c = rows_all (summed c.args.cat.now) c.args.old.now c.loop-i.b (λ j lt. c.loop-i.invariant.done j (omega (arith, lt)))
