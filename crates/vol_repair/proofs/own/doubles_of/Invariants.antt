use Rattle.std.proofs.Common.{◌≡◌, map, take}
use Rattle.std.specs.Prelude.{filter}
use Rattle.vol_faults.specs.Places.{place_of}
use Rattle.vol_repair.specs.Removing.{place_from, is_double}
use Rattle.vol_repair.proofs.own.doubles_of.Given as goal

abbrev pub invariant-loop-spot : goal.invariant-loop-spot
invariant-loop-spot l = map place_from l.all.items ≡ filter is_double (map place_of (take l.spot-index l.spots))
