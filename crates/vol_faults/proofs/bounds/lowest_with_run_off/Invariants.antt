use Rattle.std.proofs.Common.{◌≡◌, ◌<◌, ◌≤◌, ℕ, false}
use Rattle.vol_parts.specs.Volumes.{volume}
use Rattle.vol_faults.specs.Conditions.{has_run_off}
use Rattle.vol_faults.proofs.bounds.lowest_with_run_off.Given as goal

abbrev pub invariant-loop-n : goal.invariant-loop-n
invariant-loop-n l = (m : ℕ) → 1 ≤ m → m < l.n → has_run_off (volume l.home l.blocks) m ≡ false
