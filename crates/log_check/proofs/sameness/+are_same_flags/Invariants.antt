use Rattle.std.proofs.Common.{length}
use Rattle.log_check.proofs.sameness.+are_same_flags.Given as goal

abbrev pub decreases-are_same_flags : goal.decreases-are_same_flags
decreases-are_same_flags l = length l.a.now
