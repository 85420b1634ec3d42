use Rattle.std.proofs.Common.{ℕ, ◌<◌, get_or}
use Rattle.plain_cat.specs.declared.cat.QuotaRow.{QuotaRow}
use Rattle.plain_rules.specs.Accounts.{IsCharged}
use Rattle.plain_rules.proofs.accounts.are_charged.Given as goal

abbrev pub invariant-loop-row : goal.invariant-loop-row
invariant-loop-row l = (k : ℕ) (d : QuotaRow) → k < l.row-index → IsCharged l.cat (get_or l.row-items k d)
