use Rattle.std.proofs.Common.{◌≡◌, map, take}
use Rattle.vol_show.specs.Specifying.{capital}
use Rattle.vol_show.proofs.specifying.capitals.Given as goal

abbrev pub invariant-loop-b : goal.invariant-loop-b
invariant-loop-b l = l.all.items ≡ map capital (take l.b-index l.text)
