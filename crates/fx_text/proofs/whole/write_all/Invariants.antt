use Rattle.std.proofs.Common.{length, ◌-◌}
use Rattle.fx_text.proofs.Streams.{HasWritten}
use Rattle.fx_text.proofs.whole.write_all.Given as goal

abbrev pub invariant-loop-at : goal.invariant-loop-at
invariant-loop-at g l =
    HasWritten (g.O.TextOut.written l.initial.out) (g.O.TextOut.written l.out) (g.O.TextOut.faults l.initial.out) (g.O.TextOut.faults l.out) l.bytes l.at

abbrev pub decreases-loop-at : goal.decreases-loop-at
decreases-loop-at g l = length l.bytes - l.at
