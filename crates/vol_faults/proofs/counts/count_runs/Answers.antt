use Rattle.std.proofs.Common.{◌≡◌, ◌∙◌, ◌∷◌, List, get_or, arith}
use Rattle.fx_header.specs.declared.run.Run.{Run}
use Rattle.vol_parts.specs.Iter.{file_runs_left}
use Rattle.vol_parts.specs.Volumes.{volume}
use Rattle.vol_faults.proofs.CountLemmas.{is-next, count_by-next, count-small}
use Rattle.vol_faults.proofs.counts.count_runs.Goals as goal

pub count_clusters_between-requires-clause-order : goal.count_clusters_between-requires-clause-order
count_clusters_between-requires-clause-order c =
    let v = volume c.args.home.now c.args.blocks.now in
    let steps : file_runs_left c.loop-run.run-iterator ≡ c.in-Some.run' ∷ file_runs_left c.next.new.self = c.in-Some.ensures.steps in
    let next = is-next v c.in-Some.run' (file_runs_left c.next.new.self) c.requires.limits.cluster_low (rw steps at c.loop-run.invariant.runs) in
    rw c.from-cluster.ensures next.order

pub count_clusters_between-requires-clause-inside : goal.count_clusters_between-requires-clause-inside
count_clusters_between-requires-clause-inside c =
    let v = volume c.args.home.now c.args.blocks.now in
    let steps : file_runs_left c.loop-run.run-iterator ≡ c.in-Some.run' ∷ file_runs_left c.next.new.self = c.in-Some.ensures.steps in
    let next = is-next v c.in-Some.run' (file_runs_left c.next.new.self) c.requires.limits.cluster_low (rw steps at c.loop-run.invariant.runs) in
    rw c.from-cluster.ensures (omega (arith, next.inside))

pub loop-run-preserved : goal.loop-run-preserved
loop-run-preserved c =
    let v = volume c.args.home.now c.args.blocks.now in
    let rest : List Run = file_runs_left c.next.new.self in
    let steps : file_runs_left c.loop-run.run-iterator ≡ c.in-Some.run' ∷ file_runs_left c.next.new.self = c.in-Some.ensures.steps in
    let next = is-next v c.in-Some.run' rest c.requires.limits.cluster_low (rw steps at c.loop-run.invariant.runs) in
    record {
      runs = next.rest;
      small = λ q. rw (c.count_clusters_between.ensures q) (count-small _ _ (c.loop-run.invariant.small q));
      each = λ q. rw (c.count_clusters_between.ensures q, c.from-cluster.ensures)
          (count_by-next v q (get_or c.loop-run.counts q 0) c.in-Some.run' rest next ∙ (rw steps at (c.loop-run.invariant.each q)));
    }
