use Rattle.std.proofs.Common.{◌≡◌, ◌++◌, filter, take}
use Rattle.dlm_core.specs.declared.blocks.Block.{Block}
use Rattle.dlm_core.specs.Deaths.{was_master}
use Rattle.dlm_core.proofs.cluster.Cluster.add_claimed.Given as goal

abbrev pub invariant-loop-b : goal.invariant-loop-b
invariant-loop-b l = l.claimed.items ≡ l.fn.claimed.items ++ filter (λ (b : Block). was_master l.dead l.self b.name) (take l.b-index l.blocks)
