use Rattle.std.proofs.Common.{◌≡◌, ◌<◌, ℕ, false}
use Rattle.std.specs.Prelude.{◌&&◌, nat_le}
use Rattle.vol_parts.specs.Volumes.{volume, is_free_cluster}
use Rattle.vol_faults.specs.Counts.{times}
use Rattle.vol_faults.proofs.clusters.lowest_free_in_file.Given as goal

abbrev pub invariant-loop-q : goal.invariant-loop-q
invariant-loop-q l = (p : ℕ) → p < l.q → (is_free_cluster (volume l.home l.blocks) p && nat_le 1 (times (volume l.home l.blocks) p)) ≡ false
