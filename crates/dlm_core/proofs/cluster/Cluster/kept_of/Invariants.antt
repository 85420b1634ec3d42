use Rattle.std.proofs.Common.{◌≡◌, filter, take}
use Rattle.dlm_core.specs.declared.messages.Message.{Message}
use Rattle.dlm_core.specs.Recoveries.{is_with}
use Rattle.dlm_core.proofs.cluster.Cluster.kept_of.Given as goal

abbrev pub invariant-loop-m : goal.invariant-loop-m
invariant-loop-m l = l.some.items ≡ filter (λ (m : Message). is_with l.own l.dead l.self m.name) (take l.m-index l.all)
