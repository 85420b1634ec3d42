use Rattle.std.proofs.Common.{◌≡◌, nat_lt}
use Rattle.fx_header.specs.Pointers.{blocks_in}
use Rattle.vol_parts.specs.Chains.{held}
use Rattle.vol_parts.specs.Iter.{slot_runs_left}
use Rattle.vol_parts.specs.Volumes.{volume, headers_of}
use Rattle.vol_faults.proofs.tails.lists_more.Given as goal

abbrev pub invariant-loop-run : goal.invariant-loop-run
invariant-loop-run l = nat_lt l.left (blocks_in (slot_runs_left l.run-iterator)) ≡ nat_lt l.count (held (headers_of (volume l.home l.blocks)) l.n)
