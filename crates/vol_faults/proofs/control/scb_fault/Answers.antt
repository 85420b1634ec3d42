use Rattle.std.proofs.Common.{arith}
use Rattle.vol_parts.specs.Volumes.{volume}
use Rattle.vol_faults.proofs.BitmapLemmas.{bitmap-inside}
use Rattle.vol_faults.proofs.control.scb_fault.Goals as goal

pub bounds-blocks-first_lbn : goal.bounds-blocks-first_lbn
bounds-blocks-first_lbn c =
    let h = bitmap-inside (volume c.args.home.now c.args.blocks.now) 0 c.requires.limits.cluster_low c.requires.systems (omega arith) in
    omega arith
