use Rattle.std.proofs.Common.{◌≡◌, ◌+◌, ◌≤◌, ◌<◌, ℕ, min, get_or}
use Rattle.std.specs.List.{count_by}
use Rattle.vol_parts.specs.Iter.{file_runs_left}
use Rattle.vol_parts.specs.Volumes.{volume, factor, total, is_in_run}
use Rattle.vol_sound.proofs.clusters.count_runs.Given as goal

abbrev pub invariant-loop-run : goal.invariant-loop-run
invariant-loop-run l = record {
  small : (q : ℕ) → q < total (volume l.home l.blocks) → get_or l.counts q 0 ≤ 2;
  each : (q : ℕ) → q < total (volume l.home l.blocks)
      → min 2 (get_or l.counts q 0 + count_by (is_in_run (factor (volume l.home l.blocks)) q) (file_runs_left l.run-iterator))
      ≡ min 2 (get_or l.initial.counts q 0 + count_by (is_in_run (factor (volume l.home l.blocks)) q) (file_runs_left l.initial.left));
}
