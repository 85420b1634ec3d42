use Rattle.std.proofs.Common.{◌≡◌, ◌<◌, ◌≤◌, ℕ, None}
use Rattle.vol_parts.specs.Volumes.{volume}
use Rattle.vol_parts.specs.Fatal.{dir_fault}
use Rattle.vol_parts.proofs.dirs.lowest_dir_fault.Given as goal

abbrev pub invariant-loop-n : goal.invariant-loop-n
invariant-loop-n l = (m : ℕ) → 1 ≤ m → m < l.n → dir_fault (volume l.home l.blocks) m ≡ None
