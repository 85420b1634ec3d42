use Rattle.std.proofs.Common.{get_or, subst, arith}
use Rattle.base_words.specs.Lists.{Has}
use Rattle.op_steps.proofs.Clustered.{listed, cluster_ends}
use Rattle.op_steps.proofs.clusters.runs_for.Goals as goal

pub overflow_mul-q : goal.overflow_mul-q
overflow_mul-q c =
    let qs = c.items-q-items.result.now in
    let t = c.loop-q-test.true in
    let e = cluster_ends c.args.g.now (get_or qs c.loop-q.q-index 0) c.requires.geometry (c.requires.within.there (get_or qs c.loop-q.q-index 0) (subst (λ xs. Has xs (get_or qs c.loop-q.q-index 0)) c.items-q-items.ensures.items (listed qs c.loop-q.q-index 0 t))) in
    omega arith
