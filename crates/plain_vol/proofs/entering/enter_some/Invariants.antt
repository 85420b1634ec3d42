use Rattle.std.proofs.Common.{◌≡◌, drop}
use Rattle.plain_rules.specs.Mending.{enter_some}
use Rattle.plain_vol.proofs.entering.enter_some.Given as goal

abbrev pub invariant-loop-n : goal.invariant-loop-n
invariant-loop-n l = enter_some (drop l.n-index l.numbers) l.after ≡ enter_some l.numbers l.initial.after
