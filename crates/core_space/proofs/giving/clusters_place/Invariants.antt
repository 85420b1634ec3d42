use Rattle.std.proofs.Common.{◌≡◌, None}
use Rattle.std.specs.Prelude.{find}
use Rattle.std.specs.List.{range_with_len}
use Rattle.core_space.specs.Giving.{is_wanting}
use Rattle.core_space.proofs.giving.clusters_place.Given as goal

abbrev pub invariant-loop-k : goal.invariant-loop-k
invariant-loop-k l = find (is_wanting l.geometry l.clusters l.looked) (range_with_len 0 l.k) ≡ None
