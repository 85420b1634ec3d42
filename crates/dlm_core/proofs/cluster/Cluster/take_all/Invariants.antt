use Rattle.std.proofs.Common.{◌≡◌, drop}
use Rattle.dlm_core.specs.States.{IsShaped}
use Rattle.dlm_core.specs.Steps.{taken_all}
use Rattle.dlm_core.proofs.cluster.Cluster.take_all.Given as goal

abbrev pub invariant-loop-m : goal.invariant-loop-m
invariant-loop-m l = record { shape : IsShaped l.self; state : taken_all (drop l.m-index l.messages) l.self ≡ taken_all l.messages l.fn.self }
