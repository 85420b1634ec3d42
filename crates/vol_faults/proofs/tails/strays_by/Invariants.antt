use Rattle.std.proofs.Common.{◌≡◌, filter}
use Rattle.std.specs.List.{range_with_len}
use Rattle.vol_parts.specs.Volumes.{volume}
use Rattle.vol_parts.specs.Warnings.{is_stray}
use Rattle.vol_faults.proofs.tails.strays_by.Given as goal

abbrev pub invariant-loop-i : goal.invariant-loop-i
invariant-loop-i l = l.found.items ≡ filter (is_stray (volume l.home l.blocks)) (range_with_len 1 l.i)
