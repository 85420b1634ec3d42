use Rattle.std.proofs.Common.{◌≡◌, ◌≤◌, ◌-◌}
use Rattle.std.specs.List.{sum_by, range_with_len}
use Rattle.vol_show.specs.Listing.{nameless_count}
use Rattle.vol_show.proofs.sums.count_nameless.Given as goal

abbrev pub invariant-loop-n : goal.invariant-loop-n
invariant-loop-n l = record {
  value : l.count ≡ sum_by (nameless_count l.cat) (range_with_len 1 (l.n - 1));
  bound : l.count ≤ l.n - 1;
}
