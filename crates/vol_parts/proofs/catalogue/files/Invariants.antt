use Rattle.std.proofs.Common.{◌≡◌, ◌-◌, map}
use Rattle.std.specs.List.{range_with_len}
use Rattle.vol_parts.specs.Volumes.{volume}
use Rattle.vol_parts.specs.Catalogues.{slot_of}
use Rattle.vol_parts.proofs.catalogue.files.Given as goal

abbrev pub invariant-loop-n : goal.invariant-loop-n
invariant-loop-n l = l.files ≡ map (slot_of (volume l.home l.blocks)) (range_with_len 1 (l.n - 1))
