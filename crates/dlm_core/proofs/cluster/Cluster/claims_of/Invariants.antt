use Rattle.std.proofs.Common.{◌≡◌, filter, take}
use Rattle.dlm_core.specs.declared.holds.Hold.{Hold}
use Rattle.dlm_core.specs.Recoveries.{is_with}
use Rattle.dlm_core.proofs.cluster.Cluster.claims_of.Given as goal

abbrev pub invariant-loop-h : goal.invariant-loop-h
invariant-loop-h l = l.some.items ≡ filter (λ (h : Hold). is_with l.own l.dead l.self h.name) (take l.h-index l.all)
