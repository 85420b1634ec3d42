use Rattle.std.proofs.Common.{◌≡◌, ◌<◌, ◌≤◌, ℕ, false}
use Rattle.vol_parts.specs.Fatal.{is_too_large}
use Rattle.vol_parts.specs.Volumes.{volume, fields}
use Rattle.vol_faults.proofs.bounds.lowest_large_file.Given as goal

abbrev pub invariant-loop-n : goal.invariant-loop-n
invariant-loop-n l = (m : ℕ) → 12 ≤ m → m < l.n → is_too_large (volume l.home l.blocks) (fields (volume l.home l.blocks) m) ≡ false
