use Rattle.std.proofs.Common.{◌∙◌, ◌++◌, ◌/◌, ℕ, List, suc, append_assoc, ap, arith}
use Rattle.std.specs.List.{range_with_len}
use Rattle.op_steps.specs.Iter.{seen_left}
use Rattle.vol_spell.specs.Reading.{clusters_of}
use Rattle.op_steps.proofs.freeing_clusters.file_clusters.Goals as goal

pub loop-run-preserved : goal.loop-run-preserved
loop-run-preserved c =
    let w = c.args.g.now.cluster in
    let r = c.in-Some.run' in
    let left = clusters_of w (seen_left c.next.new.self) in
    let inside = rw c.in-Some.ensures.steps at c.loop-run.invariant.inside in
    record {
      same = ap (λ (qs : List ℕ). qs ++ left) c.in_ok-push_clusters.ensures
          ∙ append_assoc c.loop-run.all.items (range_with_len (r.lbn / w) (r.count / w)) left
          ∙ (rw c.in-Some.ensures.steps at c.loop-run.invariant.same);
      inside = λ k d lt. inside (suc k) d (omega arith);
    }
