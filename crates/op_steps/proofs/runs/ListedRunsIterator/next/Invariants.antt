use Rattle.std.proofs.Common.{◌≡◌, length}
use Rattle.op_steps.specs.Iter.{listed_left}
use Rattle.op_steps.proofs.runs.ListedRunsIterator.next.Given as goal

abbrev pub invariant-loop-run : goal.invariant-loop-run
invariant-loop-run l = listed_left l.self ≡ listed_left l.fn.self

abbrev pub decreases-loop-run : goal.decreases-loop-run
decreases-loop-run l = length l.self.rest.now
