use Rattle.std.proofs.Common.{◌≡◌, drop}
use Rattle.dlm_core.specs.States.{IsShaped}
use Rattle.dlm_core.specs.Recoveries.{block_for, reclaimed}
use Rattle.dlm_core.proofs.cluster.Cluster.reclaim_all.Given as goal

abbrev pub invariant-loop-h : goal.invariant-loop-h
invariant-loop-h l = record { shape : IsShaped l.self; state : reclaimed (block_for l.rule l.holds l.blocks) (drop l.h-index l.holds) l.self ≡ reclaimed (block_for l.rule l.holds l.blocks) l.holds l.fn.self }
