use Rattle.std.proofs.Common.{length}
use Rattle.log_check.proofs.sameness.+are_same_blocks.Given as goal

abbrev pub decreases-are_same_blocks : goal.decreases-are_same_blocks
decreases-are_same_blocks l = length l.a.now
