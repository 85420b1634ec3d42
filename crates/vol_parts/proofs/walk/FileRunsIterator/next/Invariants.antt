use Rattle.std.proofs.Common.{◌≡◌}
use Rattle.vol_parts.specs.Iter.{file_runs_left}
use Rattle.vol_parts.proofs.walk.FileRunsIterator.next.Given as goal

-- the headers that were read through had no run that was ahead
abbrev pub invariant-headers : goal.invariant-headers
invariant-headers l = file_runs_left l.self ≡ file_runs_left l.fn.self

abbrev pub decreases-headers : goal.decreases-headers
decreases-headers l = l.self.more
