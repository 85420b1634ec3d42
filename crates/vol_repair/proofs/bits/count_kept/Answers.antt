use Rattle.std.proofs.lemmas.Result.{IfOk-weaker}
use Rattle.vol_repair.proofs.Taken.{runs_inside, kept_counts}
use Rattle.vol_repair.proofs.bits.count_kept.Goals as goal

pub count_clusters-requires-clause-runs : goal.count_clusters-requires-clause-runs
count_clusters-requires-clause-runs c = runs_inside c.args.home.now c.requires.ground.0 c.args.blocks.now c.requires.limits c.requires.ground.1

pub returns : goal.returns
returns c = IfOk-weaker c.count_clusters.result _ _ (λ counts k first ground. kept_counts c.args.home.now first c.args.blocks.now c.requires.limits ground counts.items k) c.count_clusters.ensures
