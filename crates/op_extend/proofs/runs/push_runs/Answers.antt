use Rattle.std.proofs.Common.{get_or, arith}
use Rattle.op_steps.proofs.Clustered.{listed, cluster_ends}
use Rattle.op_extend.proofs.runs.push_runs.Goals as goal

pub overflow_mul-q : goal.overflow_mul-q
overflow_mul-q c =
    let qs = c.args.clusters.now in
    let i = c.loop-q.q-index in
    let e = cluster_ends c.args.g.now (get_or qs i 0) c.requires.geometry (c.requires.there (get_or qs i 0) (listed qs i 0 c.loop-q-test.true)) in
    omega arith
