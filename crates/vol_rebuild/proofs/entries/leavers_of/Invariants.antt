use Rattle.std.proofs.Common.{◌≡◌, map, take}
use Rattle.vol_faults.specs.Places.{place_of}
use Rattle.vol_rebuild.specs.Leaving.{leavers_of, place_from}
use Rattle.vol_rebuild.proofs.entries.leavers_of.Given as goal

abbrev pub invariant-loop-spot : goal.invariant-loop-spot
invariant-loop-spot l = map place_from l.all.items ≡ leavers_of l.cat (map place_of (take l.spot-index l.spots))
