use Rattle.std.proofs.Common.{◌≡◌, None, replicate}
use Rattle.rows_sample.proofs.fresh.no_opens.Given as goal

abbrev pub invariant-loop-i : goal.invariant-loop-i
invariant-loop-i l = l.opens ≡ replicate l._i None
