use Rattle.std.proofs.Common.{length}
use Rattle.log_check.proofs.sameness.+are_same_opens.Given as goal

abbrev pub decreases-are_same_opens : goal.decreases-are_same_opens
decreases-are_same_opens l = length l.a.now
