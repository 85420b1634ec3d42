use Rattle.std.proofs.Common.{◌≡◌, ◌≤◌, ◌*◌, take}
use Rattle.std.specs.List.{sum_by}
use Rattle.run_engine.proofs.counts.all_reads.Given as goal

abbrev pub invariant-loop-node : goal.invariant-loop-node
invariant-loop-node g l = record {
  sum : l.sum ≡ sum_by (λ s. s.reads) (take l.node l.w.world.nodes);
  bound : l.sum ≤ l.node * 18446744073709551615;
}
