use Rattle.std.proofs.Common.{◌≡◌, ◌==◌, ◌&&◌, not, filter, take}
use Rattle.dlm_core.specs.declared.queue.Waiter.{Waiter}
use Rattle.dlm_core.specs.Deaths.{was_master}
use Rattle.dlm_core.proofs.cluster.Cluster.left_queue.Given as goal

abbrev pub invariant-loop-w : goal.invariant-loop-w
invariant-loop-w l = l.all.items ≡ filter (λ (w : Waiter). not (w.owner.node == l.dead) && not (was_master l.dead l.self w.name)) (take l.w-index l.some)
