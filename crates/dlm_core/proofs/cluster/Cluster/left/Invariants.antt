use Rattle.std.proofs.Common.{◌≡◌, not, filter, take}
use Rattle.dlm_core.specs.declared.queue.Waiter.{Waiter}
use Rattle.dlm_core.specs.Steps.{is_served}
use Rattle.dlm_core.proofs.cluster.Cluster.left.Given as goal

abbrev pub invariant-loop-w : goal.invariant-loop-w
invariant-loop-w l = l.all.items ≡ filter (λ (w : Waiter). not (is_served l.self w)) (take l.w-index l.queue)
