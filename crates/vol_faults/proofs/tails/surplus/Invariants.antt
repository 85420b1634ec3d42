use Rattle.std.proofs.Common.{◌≡◌, filter}
use Rattle.std.specs.List.{range_with_len}
use Rattle.vol_parts.specs.Volumes.{volume}
use Rattle.vol_parts.specs.Warnings.{has_surplus}
use Rattle.vol_faults.proofs.tails.surplus.Given as goal

abbrev pub invariant-loop-i : goal.invariant-loop-i
invariant-loop-i l = l.found.items ≡ filter (has_surplus (volume l.home l.blocks)) (range_with_len 1 l.i)
