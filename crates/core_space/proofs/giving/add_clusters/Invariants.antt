use Rattle.std.proofs.Common.{◌≡◌, ◌++◌, map, filter}
use Rattle.std.specs.List.{range_with_len}
use Rattle.core_space.specs.Giving.{has_covered, clusters_back}
use Rattle.core_space.proofs.giving.add_clusters.Given as goal

abbrev pub invariant-loop-k : goal.invariant-loop-k
invariant-loop-k l = l.writes ≡ l.fn.writes ++ map (clusters_back l.geometry l.clusters l.looked) (filter (has_covered l.clusters) (range_with_len 0 l.k))
