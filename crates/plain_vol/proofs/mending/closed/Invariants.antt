use Rattle.std.proofs.Common.{◌≡◌, Option, None, map, take}
use Rattle.plain_cat.specs.declared.cat.Open.{Open}
use Rattle.plain_vol.proofs.mending.closed.Given as goal

abbrev pub invariant-loop-held : goal.invariant-loop-held
invariant-loop-held l = l.opens ≡ map (λ (o : Option Open). None) (take l._held-index l._held-items)
