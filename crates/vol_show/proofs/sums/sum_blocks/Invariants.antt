use Rattle.std.proofs.Common.{◌≡◌, ◌≤◌, ◌*◌, take}
use Rattle.std.specs.List.{sum_by}
use Rattle.vol_show.specs.Listing.{blocks_in}
use Rattle.vol_show.proofs.sums.sum_blocks.Given as goal

abbrev pub invariant-loop-slot : goal.invariant-loop-slot
invariant-loop-slot l = record {
  value : l.sum ≡ sum_by (blocks_in l.cat) (take l.slot-index l.slot-items);
  bound : l.sum ≤ 281470681677825 * l.slot-index;
}
