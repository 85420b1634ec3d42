use Rattle.std.proofs.Common.{map, take}
use Rattle.vol_faults.specs.Places.{place_of, AreFirsts}
use Rattle.vol_faults.proofs.keeping.firsts.Given as goal

abbrev pub invariant-loop-spot : goal.invariant-loop-spot
invariant-loop-spot l = AreFirsts l.cat (map place_of (take l.spot-index l.spots)) l.table.items
