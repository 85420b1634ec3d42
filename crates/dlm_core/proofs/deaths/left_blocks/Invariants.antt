use Rattle.std.proofs.Common.{◌≡◌, ◌==◌, not, filter, take}
use Rattle.dlm_core.specs.declared.blocks.Block.{Block}
use Rattle.dlm_core.proofs.deaths.left_blocks.Given as goal

abbrev pub invariant-loop-b : goal.invariant-loop-b
invariant-loop-b l = l.all.items ≡ filter (λ (b : Block). not (b.node == l.dead)) (take l.b-index l.blocks)
