use Rattle.std.proofs.Common.{◌∙◌, ◌++◌, suc, ap, arith}
use Rattle.op_steps.specs.Iter.{seen_left}
use Rattle.vol_spell.specs.Reading.{clusters_of}
use Rattle.op_law.specs.Writing.{runs_for}
use Rattle.op_extend.proofs.FileClusters.{run_more}
use Rattle.op_extend.proofs.runs.cluster_runs.Goals as goal

pub loop-run-preserved : goal.loop-run-preserved
loop-run-preserved c =
    let g = c.args.g.now in
    let left = seen_left c.next.new.self in
    let inside = rw c.in-Some.ensures.steps at c.loop-run.invariant.inside in
    record {
      same = ap (λ rs. rs ++ runs_for g (clusters_of g.cluster left)) c.in_ok-push_clusters.ensures
          ∙ run_more g c.loop-run.all.items c.in-Some.run' left
          ∙ (rw c.in-Some.ensures.steps at c.loop-run.invariant.same);
      inside = λ k d lt. inside (suc k) d (omega arith);
    }
