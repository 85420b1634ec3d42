use Rattle.std.proofs.Common.{drop}
use Rattle.fx_dir.proofs.Tallying.{BlocksCounted}
use Rattle.fx_dir.proofs.room.blocks_counted.Given as goal

abbrev pub invariant-loop-block : goal.invariant-loop-block
invariant-loop-block l = BlocksCounted l.seen (drop l.block-index l.seen) l.bytes l.longest
