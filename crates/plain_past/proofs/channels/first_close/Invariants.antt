use Rattle.std.proofs.Common.{◌≡◌, ◌+◌, drop}
use Rattle.plain_rules.specs.Own.{close_from}
use Rattle.plain_past.proofs.channels.first_close.Given as goal

abbrev pub invariant-loop-at : goal.invariant-loop-at
invariant-loop-at l = close_from (l.at + 1) (drop l.at l.channels) ≡ close_from 1 l.channels
