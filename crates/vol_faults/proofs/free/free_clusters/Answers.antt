use Rattle.std.proofs.Common.{sym, arith}
use Rattle.vol_parts.specs.Volumes.{volume, is_free_cluster}
use Rattle.vol_faults.proofs.BitmapLemmas.{bitmap-cluster}
use Rattle.vol_faults.proofs.FreeLemmas.{count-one, count-same}
use Rattle.vol_faults.proofs.free.free_clusters.Goals as goal
use Rattle.vol_faults.proofs.free.free_clusters.Goals.{then-is_free_cluster, else-is_free_cluster}

pub is_free_cluster-requires-clause-there : goal.is_free_cluster-requires-clause-there
is_free_cluster-requires-clause-there c =
    let h = bitmap-cluster (volume c.args.home.now c.args.blocks.now) c.loop-q.q c.requires.limits.cluster_low c.requires.systems (omega arith) in
    omega (arith, h, c.first_lbn-bitmap.ensures)

pub loop-q-preserved : goal.loop-q-preserved
loop-q-preserved c =
    let v = volume c.args.home.now c.args.blocks.now in
    let q = c.loop-q.q in
    elim c.if-is_free_cluster.branch [
      | then-is_free_cluster w ↦
          let one = count-one (is_free_cluster v) 0 q q (omega arith) (sym w.if-is_free_cluster.ensures) in
          record { count = omega (arith, one, w.free-is, c.loop-q.invariant.count); bound = omega (arith, w.free-is, c.loop-q.invariant.bound) }
      | else-is_free_cluster w ↦
          let same = count-same (is_free_cluster v) 0 q q (omega arith) (sym w.if-is_free_cluster.ensures) in
          record { count = omega (arith, same, w.free-is, c.loop-q.invariant.count); bound = omega (arith, w.free-is, c.loop-q.invariant.bound) }
    ]
