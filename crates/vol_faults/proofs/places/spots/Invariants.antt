use Rattle.std.proofs.Common.{◌≡◌, ◌++◌, ◌+◌, map, drop}
use Rattle.plain_rules.specs.Mending.{places_from}
use Rattle.vol_faults.specs.Places.{place_of}
use Rattle.vol_faults.proofs.places.spots.Given as goal

abbrev pub invariant-loop-i : goal.invariant-loop-i
invariant-loop-i l = map place_of l.all.items ++ places_from (l.i + 1) (drop l.i l.cat.files) ≡ places_from 1 l.cat.files
