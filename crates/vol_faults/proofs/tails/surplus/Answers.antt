use Rattle.std.proofs.Common.{arith}
use Rattle.std.proofs.lemmas.Grind.{common_steps}
use Rattle.vol_parts.specs.Volumes.{volume}
use Rattle.vol_parts.specs.Warnings.{has_surplus}
use Rattle.vol_faults.proofs.TailLemmas.{filter-next}
use Rattle.vol_faults.proofs.tails.surplus.Goals as goal

pub loop-i-preserved : goal.loop-i-preserved
loop-i-preserved c =
    grind (arith, common_steps, filter-next (has_surplus (volume c.args.home.now c.args.blocks.now)) c.loop-i.i, c.has_surplus.ensures)
