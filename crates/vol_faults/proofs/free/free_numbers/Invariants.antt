use Rattle.std.proofs.Common.{◌≡◌, ◌≤◌}
use Rattle.std.specs.List.{count_by, range_with_len}
use Rattle.vol_parts.specs.Volumes.{volume}
use Rattle.vol_faults.specs.Free.{is_free_number}
use Rattle.vol_faults.proofs.free.free_numbers.Given as goal

abbrev pub invariant-loop-i : goal.invariant-loop-i
invariant-loop-i l = record {
  count : l.free ≡ count_by (is_free_number (volume l.home l.blocks)) (range_with_len 1 l.i);
  bound : l.free ≤ l.i;
}
