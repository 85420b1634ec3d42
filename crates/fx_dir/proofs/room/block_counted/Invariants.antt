use Rattle.std.proofs.Common.{◌≤◌, length}
use Rattle.fx_dir.specs.Directory.{entries_at}
use Rattle.fx_dir.proofs.Tallying.{BlockCounted}
use Rattle.fx_dir.proofs.room.block_counted.Given as goal

abbrev pub invariant-loop-longest : goal.invariant-loop-longest
invariant-loop-longest l = record {
  long : 2 ≤ length l.rest;
  counted : BlockCounted (entries_at l.b) 512 l.longest l.rest;
}

abbrev pub decreases-loop-longest : goal.decreases-loop-longest
decreases-loop-longest l = length l.rest
