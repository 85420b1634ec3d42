use Rattle.std.proofs.Common.{◌≡◌, ◌∙◌, ◌+◌, ◌<◌, suc, Bool, true, false, cond, sym, ap, arith}
use Rattle.std.specs.Prelude.{◌&&◌, not, nat_le, slice_index}
use Rattle.std.specs.List.{count_by, range_with_len}
use Rattle.vol_parts.specs.Catalogues.{is_outside_cluster}
use Rattle.vol_parts.specs.Volumes.{volume, total, is_free_cluster}
use Rattle.vol_faults.proofs.BitmapLemmas.{bitmap-cluster}
use Rattle.vol_faults.proofs.SharingLemmas.{outside-test, outside-more}
use Rattle.vol_faults.proofs.clusters.count_outside.Goals as goal
use Rattle.vol_faults.proofs.clusters.count_outside.Goals.{then-is_outside, else-is_outside}

pub is_outside-requires-clause-there : goal.is_outside-requires-clause-there
is_outside-requires-clause-there c =
    let h = bitmap-cluster (volume c.args.home.now c.args.blocks.now) c.loop-q.q c.requires.limits.cluster_low c.requires.systems (omega arith) in
    omega (arith, h, c.first_lbn-bitmap.ensures)

pub loop-q-preserved : goal.loop-q-preserved
loop-q-preserved c =
    let v = volume c.args.home.now c.args.blocks.now in
    let q = c.loop-q.q in
    let small : q < total v = omega arith in
    let next : q + 1 ≡ suc q = omega arith in
    let same = outside-test v c.args.counts.now q c.requires.counts small in
    let more = outside-more v q in
    elim c.if-is_outside.branch [
      | then-is_outside w ↦
          let told : (not (is_free_cluster v q) && not (nat_le 1 (slice_index c.args.counts.now q))) ≡ true = sym w.if-is_outside.ensures in
          let test : is_outside_cluster v q ≡ true = sym same ∙ told in
          let count = more ∙ ap (λ (t : Bool). count_by (is_outside_cluster v) (range_with_len 0 q) + cond t 1 0) test in
          record { count = rw next (omega (arith, count, w.outside-is, c.loop-q.invariant.count)); bound = omega (arith, w.outside-is, c.loop-q.invariant.bound) }
      | else-is_outside w ↦
          let told : (not (is_free_cluster v q) && not (nat_le 1 (slice_index c.args.counts.now q))) ≡ false = sym w.if-is_outside.ensures in
          let test : is_outside_cluster v q ≡ false = sym same ∙ told in
          let count = more ∙ ap (λ (t : Bool). count_by (is_outside_cluster v) (range_with_len 0 q) + cond t 1 0) test in
          record { count = rw next (omega (arith, count, w.outside-is, c.loop-q.invariant.count)); bound = omega (arith, w.outside-is, c.loop-q.invariant.bound) }
    ]
