use Rattle.std.proofs.Common.{◌≡◌, ◌++◌, take}
use Rattle.std.specs.Prelude.{flat_map}
use Rattle.run_trace.specs.Steps.{grant_text}
use Rattle.run_trace.proofs.waits.push_granted.Given as goal

abbrev pub invariant-loop-node : goal.invariant-loop-node
invariant-loop-node g l = l.out.items ≡ l.fn.out.items ++ flat_map (grant_text l.step l.w.world l.by) (take l.node-index l.nodes)
