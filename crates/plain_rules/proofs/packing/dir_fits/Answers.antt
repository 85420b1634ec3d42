use Rattle.std.proofs.Common.{◌∙◌}
use Rattle.plain_rules.proofs.Packs.{over_next}
use Rattle.plain_rules.proofs.packing.dir_fits.Goals as goal

pub loop-i-preserved : goal.loop-i-preserved
loop-i-preserved c = rw c.after_block-left.ensures (over_next c.args.k c.loop-i._i c.loop-i.left.now c.loop-i-test.true ∙ c.loop-i.invariant)
