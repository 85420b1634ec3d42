use Rattle.std.proofs.Common.{◌≡◌, ◌-◌, false, length, flat_map, replicate}
use Rattle.std.specs.List.{range_with_len}
use Rattle.vol_parts.specs.Catalogues.{flagged}
use Rattle.vol_parts.specs.Volumes.{volume, told}
use Rattle.vol_parts.proofs.flags.slot_flags.Given as goal

-- the slots of the files so far are flagged
abbrev pub invariant-loop-n : goal.invariant-loop-n
invariant-loop-n l = record {
  all : length l.flags ≡ l.home.files;
  whole : l.flags ≡ flagged (flat_map (λ n. (told (volume l.home l.blocks) n).slots) (range_with_len 1 (l.n - 1))) (replicate l.home.files false);
}
