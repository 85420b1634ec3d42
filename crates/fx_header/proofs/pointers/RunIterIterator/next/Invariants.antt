use Rattle.std.proofs.Common.{◌≡◌, length}
use Rattle.fx_header.specs.Iter.{runs_left}
use Rattle.fx_header.proofs.pointers.RunIterIterator.next.Given as goal

abbrev pub invariant-loop-spelt : goal.invariant-loop-spelt
invariant-loop-spelt l = runs_left l.self ≡ runs_left l.fn.self

abbrev pub decreases-loop-spelt : goal.decreases-loop-spelt
decreases-loop-spelt l = length l.self.bytes.now
