use Rattle.std.proofs.Common.{◌≡◌, ◌-◌, map}
use Rattle.std.specs.List.{range_with_len}
use Rattle.vol_parts.specs.Volumes.{volume}
use Rattle.vol_parts.specs.Catalogues.{is_outside_number}
use Rattle.vol_parts.proofs.catalogue.outside_numbers.Given as goal

abbrev pub invariant-loop-n : goal.invariant-loop-n
invariant-loop-n l = l.flags ≡ map (is_outside_number (volume l.home l.blocks)) (range_with_len 1 (l.n - 1))
