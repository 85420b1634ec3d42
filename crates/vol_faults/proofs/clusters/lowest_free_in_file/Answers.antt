use Rattle.std.proofs.Common.{◌≡◌, ◌∙◌, ◌<◌, true, false, sym, arith, below_more}
use Rattle.std.specs.Prelude.{◌&&◌, nat_le, slice_index}
use Rattle.vol_parts.specs.Volumes.{volume, total, is_free_cluster}
use Rattle.vol_faults.proofs.BitmapLemmas.{bitmap-cluster}
use Rattle.vol_faults.proofs.SharingLemmas.{free-test}
use Rattle.vol_faults.proofs.clusters.lowest_free_in_file.Goals as goal

pub is_free_in_file-requires-clause-there : goal.is_free_in_file-requires-clause-there
is_free_in_file-requires-clause-there c =
    let h = bitmap-cluster (volume c.args.home.now c.args.blocks.now) c.loop-q.q c.requires.limits.cluster_low c.requires.systems (omega arith) in
    omega (arith, h, c.first_lbn-bitmap.ensures)

pub returns-then-is_free_in_file : goal.returns-then-is_free_in_file
returns-then-is_free_in_file c =
    let v = volume c.args.home.now c.args.blocks.now in
    let q = c.loop-q.q in
    let small : q < total v = omega arith in
    let test : (is_free_cluster v q && nat_le 1 (slice_index c.args.counts.now q)) ≡ true = sym c.if-is_free_in_file.ensures in
    (omega arith, omega arith, sym (free-test v c.args.counts.now q c.requires.counts small) ∙ test, λ m from below. c.loop-q.invariant m below)

pub loop-q-preserved : goal.loop-q-preserved
loop-q-preserved c =
    let v = volume c.args.home.now c.args.blocks.now in
    let q = c.loop-q.q in
    let small : q < total v = omega arith in
    let test : (is_free_cluster v q && nat_le 1 (slice_index c.args.counts.now q)) ≡ false = sym c.if-is_free_in_file.ensures in
    below_more _ _ c.loop-q.invariant (sym (free-test v c.args.counts.now q c.requires.counts small) ∙ test)
