use Rattle.std.proofs.Common.{◌≡◌, ◌≤◌, ◌-◌, ◌++◌, length, take}
use Rattle.blk_files.proofs.whole.append.Given as goal

abbrev pub invariant-loop-at : goal.invariant-loop-at
invariant-loop-at l = record {
  few : l.at ≤ length l.more;
  blocks : l.blocks.items ≡ l.fn.blocks.items ++ take l.at l.more;
}

abbrev pub decreases-loop-at : goal.decreases-loop-at
decreases-loop-at l = length l.more - l.at
