use Rattle.std.proofs.Common.{◌≡◌, filter}
use Rattle.std.specs.List.{range_with_len}
use Rattle.vol_parts.specs.Volumes.{volume}
use Rattle.vol_parts.specs.Warnings.{has_doubles}
use Rattle.vol_analyze.proofs.doubles.doubles.Given as goal

abbrev pub invariant-loop-i : goal.invariant-loop-i
invariant-loop-i l = l.found.items ≡ filter (has_doubles (volume l.home l.blocks)) (range_with_len 1 l.i)
