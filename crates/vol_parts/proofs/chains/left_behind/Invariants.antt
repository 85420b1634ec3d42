use Rattle.std.proofs.Common.{◌≡◌, ◌-◌}
use Rattle.fx_header.specs.Pointers.{blocks_in}
use Rattle.vol_parts.specs.Volumes.{volume, headers_of}
use Rattle.vol_parts.specs.Iter.{slot_runs_left}
use Rattle.vol_parts.specs.Chains.{held}
use Rattle.vol_parts.proofs.chains.left_behind.Given as goal

abbrev pub invariant-loop-run : goal.invariant-loop-run
invariant-loop-run l = l.left - blocks_in (slot_runs_left l.run-iterator) ≡ l.fn.left - held (headers_of (volume l.home l.blocks)) l.n
