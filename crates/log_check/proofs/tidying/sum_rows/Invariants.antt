use Rattle.std.proofs.Common.{◌≡◌}
use Rattle.plain_rules.specs.Mending.{summed_row}
use Rattle.log_check.proofs.InPlace.{changed}
use Rattle.log_check.proofs.tidying.sum_rows.Given as goal

abbrev pub invariant-loop-at : goal.invariant-loop-at
invariant-loop-at l = l.cat ≡ record l.fn.cat { quota = changed (summed_row l.fn.cat) l.at l.fn.cat.quota }
