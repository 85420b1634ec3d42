use Rattle.std.proofs.Common.{◌≡◌, ◌++◌, drop, map}
use Rattle.vol_faults.specs.Places.{place_of}
use Rattle.vol_analyze.specs.Kinds.{seconds_of}
use Rattle.vol_analyze.proofs.kinds.push_seconds.Given as goal

abbrev pub invariant-loop-spot : goal.invariant-loop-spot
invariant-loop-spot l =
    l.out.items ++ seconds_of l.cat (map place_of (drop l.spot-index l.spots)) ≡ l.initial.out.items ++ seconds_of l.cat (map place_of l.spots)
