use Rattle.std.proofs.Common.{◌≡◌, ◌≤◌, ◌*◌, take}
use Rattle.std.specs.List.{sum_by}
use Rattle.vol_show.specs.Listing.{bytes_in}
use Rattle.vol_show.proofs.sums.sum_bytes.Given as goal

abbrev pub invariant-loop-slot : goal.invariant-loop-slot
invariant-loop-slot l = record {
  value : l.sum ≡ sum_by (bytes_in l.cat) (take l.slot-index l.slot-items);
  bound : l.sum ≤ 4398046511104 * l.slot-index;
}
