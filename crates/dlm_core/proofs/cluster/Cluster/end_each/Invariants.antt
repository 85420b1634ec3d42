use Rattle.std.proofs.Common.{◌≡◌, drop}
use Rattle.dlm_core.specs.States.{IsShaped}
use Rattle.dlm_core.specs.Recoveries.{all_ended}
use Rattle.dlm_core.proofs.cluster.Cluster.end_each.Given as goal

abbrev pub invariant-loop-dead : goal.invariant-loop-dead
invariant-loop-dead l = record { shape : IsShaped l.self; state : all_ended (drop l.dead-index l.recoveries) l.self ≡ all_ended l.recoveries l.fn.self }
