use Rattle.std.proofs.Common.{◌+◌, sym, ap, not, arith}
use Rattle.vol_parts.specs.Volumes.{volume}
use Rattle.vol_faults.specs.Free.{is_free_number}
use Rattle.vol_faults.proofs.FreeLemmas.{count-one, count-same}
use Rattle.vol_faults.proofs.HeaderLemmas.{index-inside}
use Rattle.vol_faults.proofs.free.free_numbers.Goals as goal
use Rattle.vol_faults.proofs.free.free_numbers.Goals.{then-not-is_used_number, else-not-is_used_number}

pub is_used_number-requires-clause-there : goal.is_used_number-requires-clause-there
is_used_number-requires-clause-there c =
    let h = index-inside (volume c.args.home.now c.args.blocks.now) (omega arith) c.requires.heads in
    omega (arith, h)

pub loop-i-preserved : goal.loop-i-preserved
loop-i-preserved c =
    let v = volume c.args.home.now c.args.blocks.now in
    let i = c.loop-i.i in
    elim c.if-not-is_used_number.branch [
      | then-not-is_used_number w ↦
          let one = count-one (is_free_number v) 1 i (i + 1) (omega arith) (ap not (sym w.if-not-is_used_number.ensures)) in
          record { count = omega (arith, one, w.free-is, c.loop-i.invariant.count); bound = omega (arith, w.free-is, c.loop-i.invariant.bound) }
      | else-not-is_used_number w ↦
          let same = count-same (is_free_number v) 1 i (i + 1) (omega arith) (ap not (sym w.if-not-is_used_number.ensures)) in
          record { count = omega (arith, same, w.free-is, c.loop-i.invariant.count); bound = omega (arith, w.free-is, c.loop-i.invariant.bound) }
    ]
