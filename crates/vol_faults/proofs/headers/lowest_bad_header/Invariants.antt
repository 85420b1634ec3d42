use Rattle.std.proofs.Common.{◌≡◌, ◌<◌, ◌≤◌, ℕ, false}
use Rattle.vol_parts.specs.Volumes.{volume}
use Rattle.vol_faults.specs.Conditions.{is_bad_header}
use Rattle.vol_faults.proofs.headers.lowest_bad_header.Given as goal

abbrev pub invariant-loop-n : goal.invariant-loop-n
invariant-loop-n l = (m : ℕ) → 1 ≤ m → m < l.n → is_bad_header (volume l.home l.blocks) m ≡ false
