use Rattle.std.proofs.Common.{◌≡◌, filter, take}
use Rattle.dlm_core.specs.declared.blocks.Block.{Block}
use Rattle.dlm_core.specs.Recoveries.{is_with}
use Rattle.dlm_core.proofs.cluster.Cluster.blocks_of.Given as goal

abbrev pub invariant-loop-b : goal.invariant-loop-b
invariant-loop-b l = l.some.items ≡ filter (λ (b : Block). is_with l.own l.dead l.self b.name) (take l.b-index l.all)
