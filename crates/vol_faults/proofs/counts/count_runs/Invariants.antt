use Rattle.std.proofs.Common.{◌≡◌, ◌+◌, ◌≤◌, ℕ, false, min, get_or}
use Rattle.std.specs.List.{count_by, list_any}
use Rattle.vol_parts.specs.Iter.{file_runs_left}
use Rattle.vol_parts.specs.Fatal.{is_off_bounds}
use Rattle.vol_parts.specs.Volumes.{volume, factor, is_in_run}
use Rattle.vol_faults.proofs.counts.count_runs.Given as goal

abbrev pub invariant-loop-run : goal.invariant-loop-run
invariant-loop-run l = record {
  runs : list_any (is_off_bounds (volume l.home l.blocks)) (file_runs_left l.run-iterator) ≡ false;
  small : (q : ℕ) → get_or l.counts q 0 ≤ 2;
  each : (q : ℕ) → min 2 (get_or l.counts q 0 + count_by (is_in_run (factor (volume l.home l.blocks)) q) (file_runs_left l.run-iterator))
      ≡ min 2 (get_or l.initial.counts q 0 + count_by (is_in_run (factor (volume l.home l.blocks)) q) (file_runs_left l.initial.left));
}
