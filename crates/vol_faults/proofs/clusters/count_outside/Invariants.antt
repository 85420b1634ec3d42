use Rattle.std.proofs.Common.{◌≡◌, ◌≤◌}
use Rattle.std.specs.List.{count_by, range_with_len}
use Rattle.vol_parts.specs.Catalogues.{is_outside_cluster}
use Rattle.vol_parts.specs.Volumes.{volume}
use Rattle.vol_faults.proofs.clusters.count_outside.Given as goal

abbrev pub invariant-loop-q : goal.invariant-loop-q
invariant-loop-q l = record {
  count : l.outside ≡ count_by (is_outside_cluster (volume l.home l.blocks)) (range_with_len 0 l.q);
  bound : l.outside ≤ l.q;
}
