use Rattle.std.proofs.Common.{◌≡◌, ◌≤◌}
use Rattle.std.specs.List.{count_by, range_with_len}
use Rattle.vol_parts.specs.Volumes.{volume, is_free_cluster}
use Rattle.vol_faults.proofs.free.free_clusters.Given as goal

abbrev pub invariant-loop-q : goal.invariant-loop-q
invariant-loop-q l = record {
  count : l.free ≡ count_by (is_free_cluster (volume l.home l.blocks)) (range_with_len 0 l.q);
  bound : l.free ≤ l.q;
}
