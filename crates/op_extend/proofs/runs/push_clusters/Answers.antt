use Rattle.std.proofs.Common.{◌∙◌, ◌+◌, ◌*◌, ◌/◌, ◌++◌, [], ◌∷◌, ap}
use Rattle.op_extend.proofs.FileClusters.{one_run_more}
use Rattle.op_extend.proofs.runs.push_clusters.Goals as goal

pub loop-i-preserved : goal.loop-i-preserved
loop-i-preserved c =
    let g = c.args.g.now in
    let first = c.args.run.lbn / g.cluster in
    c.in_ok-push.ensures.items
    ∙ ap (λ rs. rs ++ record { lbn = (first + c.loop-i.i) * g.cluster; count = g.cluster } ∷ []) c.loop-i.invariant
    ∙ one_run_more g c.args.all.now.items first c.loop-i.i
