use Rattle.std.proofs.Common.{◌≡◌, true, length}
use Rattle.log_check.specs.Tidying.{IsSettled}
use Rattle.log_check.proofs.Going.{Going}
use Rattle.log_check.proofs.judging.judge_from.Given as goal

abbrev pub invariant-loop-now : goal.invariant-loop-now
invariant-loop-now l = Going l.fn.cat l.text l.now l.rest l.entries l.answers l.deaths × (l.settled ≡ true → IsSettled l.now)

abbrev pub decreases-loop-now : goal.decreases-loop-now
decreases-loop-now l = length l.rest
