use Rattle.std.proofs.Common.{sym}
use Rattle.vol_parts.specs.Volumes.{volume}
use Rattle.vol_faults.proofs.FreeLemmas.{home-read, none-of-readable, heads-sound, systems-sound}
use Rattle.vol_faults.proofs.free.free_counts.Goals as goal

pub free_clusters-requires-clause-systems : goal.free_clusters-requires-clause-systems
free_clusters-requires-clause-systems c =
    systems-sound (volume c.in-Ok.home c.args.blocks.now) (none-of-readable c.args.blocks.now c.in-Ok.home c.requires.readable (sym c.in-Ok.ensures.value))

pub free_numbers-requires-clause-heads : goal.free_numbers-requires-clause-heads
free_numbers-requires-clause-heads c =
    heads-sound (volume c.in-Ok.home c.args.blocks.now) (none-of-readable c.args.blocks.now c.in-Ok.home c.requires.readable (sym c.in-Ok.ensures.value))

pub returns-in-Err : goal.returns-in-Err
returns-in-Err c = absurd (home-read c.args.blocks.now c.in-Err.field-0 c.requires.readable (sym c.in-Err.ensures.value))
