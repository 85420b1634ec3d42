use Rattle.std.proofs.Common.{◌≡◌, ◌<◌, ◌+◌, ℕ, false}
use Rattle.plain_rules.specs.Lookups.{is_free_number}
use Rattle.plain_vol.proofs.picks.pick.Given as goal

abbrev pub invariant-loop-n : goal.invariant-loop-n
invariant-loop-n l = (k : ℕ) → k < l.n → is_free_number l.cat (k + 1) ≡ false
