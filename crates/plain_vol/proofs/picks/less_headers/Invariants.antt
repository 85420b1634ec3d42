use Rattle.std.proofs.Common.{◌≡◌, ◌-◌, drop}
use Rattle.std.specs.List.{sum_by}
use Rattle.plain_rules.specs.Lookups.{extra_in}
use Rattle.plain_vol.proofs.picks.less_headers.Given as goal

abbrev pub invariant-loop-slot : goal.invariant-loop-slot
invariant-loop-slot l = l.count - sum_by extra_in (drop l.slot-index l.slots) ≡ l.fn.all - sum_by extra_in l.slots
