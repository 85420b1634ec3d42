use Rattle.std.proofs.Common.{subst, get_or}
use Rattle.base_words.specs.Lists.{Has}
use Rattle.op_steps.proofs.Clustered.{listed}
use Rattle.op_create.proofs.Clustered.{one}
use Rattle.op_create.proofs.writing.push_body.Goals as goal

pub push_cluster-requires-clause-within : goal.push_cluster-requires-clause-within
push_cluster-requires-clause-within c =
    let qs = c.items-q-items.result.now in
    let k = c.loop-q.q-index in
    let in_all = subst (λ xs. Has xs (get_or qs k 0)) c.items-q-items.ensures.items (listed qs k 0 c.loop-q-test.true) in
    record {
      there = λ q has. one c.args.g.now c.args.clusters.now (get_or qs k 0) q c.requires.within.there in_all has;
      slot = tt;
    }
