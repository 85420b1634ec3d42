use Rattle.std.proofs.Common.{◌≡◌, take}
use Rattle.dlm_core.specs.Deaths.{without_dead}
use Rattle.dlm_core.proofs.deaths.without_dead.Given as goal

abbrev pub invariant-loop-n : goal.invariant-loop-n
invariant-loop-n l = l.all.items ≡ without_dead l.dead (take l.n-index l.nodes)
