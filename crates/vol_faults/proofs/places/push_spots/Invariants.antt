use Rattle.std.proofs.Common.{◌≡◌, ◌++◌, map, take}
use Rattle.plain_cat.specs.declared.entries.DirEnt.{DirEnt}
use Rattle.plain_rules.specs.declared.places.Place.{Place}
use Rattle.vol_faults.specs.Places.{place_of}
use Rattle.vol_faults.proofs.places.push_spots.Given as goal

abbrev pub invariant-loop-entry : goal.invariant-loop-entry
invariant-loop-entry l =
    map place_of l.all.items ≡ map place_of l.initial.all.items ++ map (λ (e : DirEnt). let p : Place = record { dir = l.dir; entry = e } in p) (take l.entry-index l.entries)
