use Rattle.std.proofs.Common.{sym, arith}
use Rattle.vol_spell.specs.Reading.{cluster_bit}
use Rattle.vol_faults.proofs.FreeLemmas.{count-one, count-same}
use Rattle.run_engine.proofs.free.free_bits.Goals as goal
use Rattle.run_engine.proofs.free.free_bits.Goals.{then-is_free, else-is_free}

pub is_free-requires : goal.is_free-requires
is_free-requires c = c.requires.there c.loop-q.q (omega arith)

pub loop-q-preserved : goal.loop-q-preserved
loop-q-preserved c =
    let p = cluster_bit c.args.g.now c.args.blocks.now in
    let q = c.loop-q.q in
    elim c.if-is_free.branch [
      | then-is_free w ↦
          let one = count-one p 0 q q (omega arith) (sym w.if-is_free.ensures) in
          record { count = omega (arith, one, w.free-is, c.loop-q.invariant.count); bound = omega (arith, w.free-is, c.loop-q.invariant.bound) }
      | else-is_free w ↦
          let same = count-same p 0 q q (omega arith) (sym w.if-is_free.ensures) in
          record { count = omega (arith, same, w.free-is, c.loop-q.invariant.count); bound = omega (arith, w.free-is, c.loop-q.invariant.bound) }
    ]
