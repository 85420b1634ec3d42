use Rattle.std.proofs.Common.{◌≡◌, ◌+◌, ◌≤◌}
use Rattle.fx_header.specs.Pointers.{blocks_in}
use Rattle.vol_parts.specs.Volumes.{volume, headers_of}
use Rattle.vol_parts.specs.Iter.{slot_runs_left}
use Rattle.vol_parts.specs.Chains.{held}
use Rattle.vol_parts.proofs.chains.has_blocks.Given as goal

-- the runs so far have as many blocks as were taken from the count
abbrev pub invariant-loop-run : goal.invariant-loop-run
invariant-loop-run l = record {
  few : l.left ≤ l.count;
  sum : blocks_in (slot_runs_left l.run-iterator) + l.count ≡ held (headers_of (volume l.home l.blocks)) l.n + l.left;
}
