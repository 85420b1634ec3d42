use Rattle.std.proofs.Common.{◌≡◌, ◌<◌, ◌≤◌, ℕ, true}
use Rattle.vol_parts.specs.Fatal.{is_system_file}
use Rattle.vol_parts.specs.Volumes.{volume}
use Rattle.vol_faults.proofs.systems.lowest_bad_system_file.Given as goal

abbrev pub invariant-loop-n : goal.invariant-loop-n
invariant-loop-n l = (m : ℕ) → 1 ≤ m → m < l.n → is_system_file (volume l.home l.blocks) m ≡ true
