use Rattle.std.proofs.Common.{◌≡◌, ◌==◌, ◌&&◌, not, filter, take}
use Rattle.dlm_core.specs.declared.holds.Hold.{Hold}
use Rattle.dlm_core.specs.Deaths.{was_master}
use Rattle.dlm_core.proofs.cluster.Cluster.left_claims.Given as goal

abbrev pub invariant-loop-h : goal.invariant-loop-h
invariant-loop-h l = l.all.items ≡ filter (λ (h : Hold). not (h.owner.node == l.dead) && not (was_master l.dead l.self h.name)) (take l.h-index l.some)
