use Rattle.std.proofs.Common.{◌≡◌, drop}
use Rattle.plain_rules.specs.Replaying.{flagged}
use Rattle.plain_vol.proofs.dying.flag.Given as goal

abbrev pub invariant-loop-n : goal.invariant-loop-n
invariant-loop-n l =
    record l.cat { leaked_numbers = flagged l.cat.leaked_numbers (drop l.n-index l.numbers) }
    ≡ record l.fn.cat { leaked_numbers = flagged l.fn.cat.leaked_numbers l.numbers }
