use Rattle.std.proofs.Common.{◌≡◌, map, take}
use Rattle.dlm_core.specs.States.{own_home}
use Rattle.dlm_core.proofs.cluster.own_homes.Given as goal

abbrev pub invariant-loop-n : goal.invariant-loop-n
invariant-loop-n l = l.all.items ≡ map own_home (take l.n-index l.nodes)
