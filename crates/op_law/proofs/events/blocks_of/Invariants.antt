use Rattle.std.proofs.Common.{◌≡◌, map, take}
use Rattle.op_law.proofs.events.blocks_of.Given as goal

abbrev pub invariant-loop-block : goal.invariant-loop-block
invariant-loop-block l = l.blocks ≡ map (λ s. s.1) (take l.block-index l.seen)
