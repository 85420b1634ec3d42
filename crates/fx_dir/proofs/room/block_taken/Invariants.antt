use Rattle.std.proofs.Common.{◌≤◌, length}
use Rattle.fx_dir.specs.Moves.{key}
use Rattle.fx_dir.specs.Directory.{entries_at}
use Rattle.fx_dir.specs.Walk.{walked_of, walked}
use Rattle.fx_dir.proofs.RoomStreams.{RecordsLeft}
use Rattle.fx_dir.proofs.room.block_taken.Given as goal

abbrev pub invariant-loop-rest : goal.invariant-loop-rest
invariant-loop-rest l = record {
  long : 2 ≤ length l.rest;
  left : RecordsLeft (walked (key l.name l.ver)) (walked (key l.name l.ver) (walked_of l.w) (entries_at l.b)) (walked_of l.now) l.rest;
}

abbrev pub decreases-loop-rest : goal.decreases-loop-rest
decreases-loop-rest l = length l.rest
