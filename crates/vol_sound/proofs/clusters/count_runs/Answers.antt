use Rattle.std.proofs.Common.{◌≡◌, ◌∙◌, ◌∷◌, List, get_or}
use Rattle.fx_header.specs.declared.run.Run.{Run}
use Rattle.vol_parts.specs.Iter.{file_runs_left}
use Rattle.vol_parts.specs.Volumes.{volume}
use Rattle.vol_sound.proofs.ClusterLemmas.{one-more-run, stays-small}
use Rattle.vol_sound.proofs.clusters.count_runs.Goals as goal

pub loop-run-preserved : goal.loop-run-preserved
loop-run-preserved c =
    let v = volume c.args.home.now c.args.blocks.now in
    let rest : List Run = file_runs_left c.next.new.self in
    let steps : file_runs_left c.loop-run.run-iterator ≡ c.in-Some.run' ∷ file_runs_left c.next.new.self = c.in-Some.ensures.steps in
    let span = c.clusters_of-span.result in
    record {
      small = λ q inside. rw (c.count_between.ensures q) (stays-small _ _ (c.loop-run.invariant.small q inside));
      each = λ q inside. rw (c.count_between.ensures q)
          (one-more-run v q (get_or c.loop-run.counts q 0) span.from span.to c.in-Some.run' rest c.clusters_of-span.ensures inside
          ∙ (rw steps at (c.loop-run.invariant.each q inside)));
    }
