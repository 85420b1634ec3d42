use Rattle.std.proofs.Common.{◌≡◌, ◌++◌, map, take}
use Rattle.plain_cat.specs.declared.entries.DirEnt.{DirEnt}
use Rattle.plain_rules.specs.declared.places.Place.{Place}
use Rattle.plain_vol.proofs.entering.push_places.Given as goal

abbrev pub invariant-loop-e : goal.invariant-loop-e
invariant-loop-e l = l.all.items ≡ l.initial.all.items ++ map (λ (e : DirEnt). let p : Place = record { dir = l.dir; entry = e } in p) (take l.e-index l.entries)
