use Rattle.std.proofs.Common.{refl, sym}
use Rattle.vol_parts.specs.Volumes.{volume}
use Rattle.vol_faults.proofs.FreeLemmas.{none-of-readable}
use Rattle.vol_spell.proofs.Listed.{runs_inside}
use Rattle.vol_spell.proofs.lbns.file_lbns.Goals as goal

pub runs_lbns-requires-clause-runs : goal.runs_lbns-requires-clause-runs
runs_lbns-requires-clause-runs c =
    runs_inside (volume c.in-Ok.home c.args.blocks.now) c.args.n (none-of-readable c.args.blocks.now c.in-Ok.home c.requires.readable (sym c.in-Ok.ensures.value)) (c.if-not-is_file.ensures.number refl)
