use Rattle.std.proofs.Common.{◌≡◌, drop}
use Rattle.plain_rules.specs.Mending.{enter_all}
use Rattle.plain_vol.proofs.entering.enter_all.Given as goal

abbrev pub invariant-loop-n : goal.invariant-loop-n
invariant-loop-n l = enter_all (drop l.n-index l.numbers) l.after ≡ enter_all l.numbers l.initial.after
