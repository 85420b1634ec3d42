use Rattle.std.proofs.Common.{◌≡◌, drop}
use Rattle.plain_rules.specs.declared.places.Place.{Place}
use Rattle.plain_rules.specs.Mending.{is_first}
use Rattle.plain_vol.proofs.entering.is_first.Given as goal

abbrev pub invariant-loop-p : goal.invariant-loop-p
invariant-loop-p l = let own : Place = record { dir = l.dir; entry = l.e } in is_first own (drop l.p-index l.all) ≡ is_first own l.all
