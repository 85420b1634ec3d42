use Rattle.std.proofs.Common.{◌≡◌, ◌≤◌, take}
use Rattle.std.specs.List.{sum_by}
use Rattle.vol_show.specs.Listing.{files_in}
use Rattle.vol_show.proofs.sums.count_files.Given as goal

abbrev pub invariant-loop-slot : goal.invariant-loop-slot
invariant-loop-slot l = record {
  value : l.count ≡ sum_by files_in (take l.slot-index l.slot-items);
  bound : l.count ≤ l.slot-index;
}
