use Rattle.std.proofs.Common.{◌≡◌, drop, map}
use Rattle.std.specs.Prelude.{slice_get}
use Rattle.vol_faults.specs.Places.{place_of}
use Rattle.vol_analyze.specs.Kinds.{seconds_of}
use Rattle.vol_analyze.proofs.firsts.first_second.Given as goal

abbrev pub invariant-loop-spot : goal.invariant-loop-spot
invariant-loop-spot l = slice_get (seconds_of l.cat (map place_of (drop l.spot-index l.spots))) 0 ≡ slice_get (seconds_of l.cat (map place_of l.spots)) 0
