use Rattle.std.proofs.Common.{◌≡◌, ◌≤◌, ◌-◌}
use Rattle.std.specs.List.{count_by, range_with_len}
use Rattle.vol_parts.specs.Volumes.{volume}
use Rattle.vol_sound.specs.Sound.{is_freed}
use Rattle.vol_sound.proofs.kept.freed_slots.Given as goal

abbrev pub invariant-loop-n : goal.invariant-loop-n
invariant-loop-n l = record {
  count : l.freed ≡ count_by (is_freed (volume l.home l.blocks)) (range_with_len 1 (l.n - 1));
  bound : l.freed ≤ l.n - 1;
}
