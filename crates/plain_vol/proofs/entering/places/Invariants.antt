use Rattle.std.proofs.Common.{◌≡◌, ◌++◌, ◌+◌, drop}
use Rattle.plain_rules.specs.Mending.{places_from}
use Rattle.plain_vol.proofs.entering.places.Given as goal

abbrev pub invariant-loop-i : goal.invariant-loop-i
invariant-loop-i l = l.all.items ++ places_from (l.i + 1) (drop l.i l.cat.files) ≡ places_from 1 l.cat.files
