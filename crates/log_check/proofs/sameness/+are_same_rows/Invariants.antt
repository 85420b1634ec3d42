use Rattle.std.proofs.Common.{length}
use Rattle.log_check.proofs.sameness.+are_same_rows.Given as goal

abbrev pub decreases-are_same_rows : goal.decreases-are_same_rows
decreases-are_same_rows l = length l.a.now
