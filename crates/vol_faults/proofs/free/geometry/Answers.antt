use Rattle.std.proofs.Common.{sym, arith}
use Rattle.vol_parts.specs.Volumes.{volume}
use Rattle.vol_faults.proofs.BitmapLemmas.{geometry-limits}
use Rattle.vol_faults.proofs.FreeLemmas.{home-read, none-of-readable, systems-sound}
use Rattle.vol_faults.proofs.free.geometry.Goals as goal

pub returns-in-Ok-clause-limits : goal.returns-in-Ok-clause-limits
returns-in-Ok-clause-limits c =
    let v = volume c.in-Ok.home c.args.blocks.now in
    let sound = systems-sound v (none-of-readable c.args.blocks.now c.in-Ok.home c.requires.readable (sym c.in-Ok.ensures.value)) in
    let limits = geometry-limits v c.in-Ok.ensures.within c.requires.size sound in
    record {
      blocks_from = limits.blocks_from;
      blocks_to = limits.blocks_to;
      cluster_from = omega (arith, limits.cluster_from, c.from.ensures);
      cluster_to = omega (arith, limits.cluster_to, c.from.ensures);
      files_from = limits.files_from;
      files_to = limits.files_to;
      bitmap = omega (arith, limits.bitmap, c.first_lbn.ensures);
      quota = omega (arith, limits.quota, c.first_lbn-in-Ok.ensures);
    }

pub returns-in-Err : goal.returns-in-Err
returns-in-Err c = absurd (home-read c.args.blocks.now c.in-Err.field-0 c.requires.readable (sym c.in-Err.ensures.value))
