use Rattle.std.proofs.Common.{sym, ◌∙◌}
use Rattle.lock_db.proofs.Places.{vacated-used}
use Rattle.lock_db.proofs.table.vacate.Goals as goal

pub returns-else-not-is_used : goal.returns-else-not-is_used
returns-else-not-is_used c = λ d. vacated-used c.args.table.now.items c.args.i d c.index.result.now c.requires c.index.ensures (sym c.is_used.ensures ∙ c.if-not-is_used.false)
