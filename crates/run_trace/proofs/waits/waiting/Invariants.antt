use Rattle.std.proofs.Common.{◌≡◌, All}
use Rattle.core_state.specs.Worlds.{IsOfWorld}
use Rattle.run_trace.specs.Steps.{waiting_to}
use Rattle.run_trace.proofs.waits.waiting.Given as goal

abbrev pub invariant-loop-node : goal.invariant-loop-node
invariant-loop-node g l = record {
  is : l.nodes.items ≡ waiting_to l.w.world l.by l.node;
  inside : All (IsOfWorld l.w.world) l.nodes.items;
}
