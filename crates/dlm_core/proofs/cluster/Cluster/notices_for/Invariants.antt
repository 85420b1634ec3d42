use Rattle.std.proofs.Common.{◌≡◌, take}
use Rattle.std.specs.List.{flat_map}
use Rattle.dlm_core.specs.Notices.{notices_for}
use Rattle.dlm_core.proofs.cluster.Cluster.notices_for.Given as goal

abbrev pub invariant-loop-w : goal.invariant-loop-w
invariant-loop-w l = l.all.items ≡ flat_map (notices_for l.self) (take l.w-index l.queue)
