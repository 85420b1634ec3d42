use Rattle.std.proofs.Common.{length}
use Rattle.log_check.proofs.sameness.+are_same_slots.Given as goal

abbrev pub decreases-are_same_slots : goal.decreases-are_same_slots
decreases-are_same_slots l = length l.a.now
