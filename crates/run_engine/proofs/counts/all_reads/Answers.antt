use Rattle.std.proofs.Common.{arith}
use Rattle.run_engine.proofs.Counting.{one_more}
use Rattle.run_engine.proofs.counts.all_reads.Goals as goal

pub loop-node-preserved : goal.loop-node-preserved
loop-node-preserved g c =
    let more = one_more (λ s. s.reads) c.args.w.now.world.nodes c.loop-node.node (omega arith) in
    record {
      sum = omega (arith, more, c.loop-node.invariant.sum, c.reads.ensures);
      bound = omega (arith, c.loop-node.invariant.bound);
    }
