use Rattle.std.proofs.Common.{filter, map, take}
use Rattle.plain_rules.specs.Mending.{stays}
use Rattle.vol_faults.specs.Places.{place_of, AreFirsts}
use Rattle.vol_faults.proofs.staying.staying_firsts.Given as goal

abbrev pub invariant-loop-spot : goal.invariant-loop-spot
invariant-loop-spot l = AreFirsts l.cat (filter (stays l.cat) (map place_of (take l.spot-index l.spots))) l.table.items
