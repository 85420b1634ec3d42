use Rattle.std.proofs.Common.{◌≡◌, ◌++◌, filter, take}
use Rattle.dlm_core.specs.declared.holds.Hold.{Hold}
use Rattle.dlm_core.specs.Deaths.{was_master}
use Rattle.dlm_core.proofs.cluster.Cluster.add_claims.Given as goal

abbrev pub invariant-loop-h : goal.invariant-loop-h
invariant-loop-h l = l.claims.items ≡ l.fn.claims.items ++ filter (λ (h : Hold). was_master l.dead l.self h.name) (take l.h-index l.holds)
