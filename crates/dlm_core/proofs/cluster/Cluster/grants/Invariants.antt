use Rattle.std.proofs.Common.{◌≡◌, take}
use Rattle.dlm_core.specs.Steps.{grants_of}
use Rattle.dlm_core.proofs.cluster.Cluster.grants.Given as goal

abbrev pub invariant-loop-w : goal.invariant-loop-w
invariant-loop-w l = l.all.items ≡ grants_of l.self (take l.w-index l.queue)
