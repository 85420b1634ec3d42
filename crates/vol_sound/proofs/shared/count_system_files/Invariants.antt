use Rattle.std.proofs.Common.{◌≡◌, ◌-◌, ◌<◌, ℕ, min, get_or}
use Rattle.std.specs.List.{sum_by, range_with_len}
use Rattle.vol_parts.specs.Volumes.{volume, total}
use Rattle.vol_faults.specs.Counts.{times_in}
use Rattle.vol_sound.proofs.shared.count_system_files.Given as goal

abbrev pub invariant-loop-n : goal.invariant-loop-n
invariant-loop-n l = (q : ℕ) → q < total (volume l.home l.blocks)
    → get_or l.counts q 0 ≡ min 2 (sum_by (times_in (volume l.home l.blocks) q) (range_with_len 1 (l.n - 1)))
