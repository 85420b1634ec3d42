use Rattle.std.proofs.Common.{◌≡◌, Option, None, map, take}
use Rattle.plain_cat.specs.declared.cat.Open.{Open}
use Rattle.log_check.proofs.shutting.closed.Given as goal

abbrev pub invariant-loop-held : goal.invariant-loop-held
invariant-loop-held l = l.shut ≡ map (λ (o : Option Open). None) (take l._held-index l._held-items)
