use Rattle.std.proofs.Common.{◌≡◌, ◌<◌, ℕ, false}
use Rattle.std.specs.Prelude.{nat_le}
use Rattle.vol_parts.specs.Volumes.{volume}
use Rattle.vol_faults.specs.Counts.{times}
use Rattle.vol_faults.proofs.clusters.lowest_shared.Given as goal

abbrev pub invariant-loop-q : goal.invariant-loop-q
invariant-loop-q l = (p : ℕ) → p < l.q → nat_le 2 (times (volume l.home l.blocks) p) ≡ false
