use Rattle.std.proofs.Common.{drop}
use Rattle.fx_dir.specs.Moves.{key}
use Rattle.fx_dir.specs.Directory.{all_entries}
use Rattle.fx_dir.specs.Walk.{walked_of, walked, blocks_alone}
use Rattle.fx_dir.proofs.RoomStreams.{BlocksLeft}
use Rattle.fx_dir.proofs.room.blocks_taken.Given as goal

abbrev pub invariant-loop-block : goal.invariant-loop-block
invariant-loop-block l = BlocksLeft (walked (key l.name l.ver)) (walked (key l.name l.ver) (walked_of l.w) (all_entries (blocks_alone l.seen))) (walked_of l.now) (drop l.block-index l.seen)
