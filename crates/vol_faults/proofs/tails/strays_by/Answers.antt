use Rattle.std.proofs.Common.{arith}
use Rattle.std.proofs.lemmas.Grind.{common_steps}
use Rattle.vol_parts.specs.Volumes.{volume}
use Rattle.vol_parts.specs.Warnings.{is_stray}
use Rattle.vol_faults.proofs.TailLemmas.{filter-next}
use Rattle.vol_faults.proofs.tails.strays_by.Goals as goal

pub loop-i-preserved : goal.loop-i-preserved
loop-i-preserved c =
    grind (arith, common_steps, filter-next (is_stray (volume c.args.home.now c.args.blocks.now)) c.loop-i.i, c.is_stray.ensures)
