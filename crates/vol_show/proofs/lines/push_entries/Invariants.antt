use Rattle.std.proofs.Common.{◌≡◌, ◌++◌, map, take}
use Rattle.std.specs.List.{flat_map}
use Rattle.vol_faults.specs.Places.{place_of}
use Rattle.vol_show.specs.Listing.{entry_line}
use Rattle.vol_show.proofs.lines.push_entries.Given as goal

abbrev pub invariant-loop-spot : goal.invariant-loop-spot
invariant-loop-spot l = l.out.items ≡ l.fn.out.items ++ flat_map (entry_line l.cat) (map place_of (take l.spot-index l.all))
