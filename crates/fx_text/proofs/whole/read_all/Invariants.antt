use Rattle.std.proofs.Common.{◌-◌, vec_len}
use Rattle.fx_text.proofs.Streams.{HasRead}
use Rattle.fx_text.proofs.whole.read_all.Given as goal

abbrev pub invariant-loop-all : goal.invariant-loop-all
invariant-loop-all g l =
    HasRead (g.T.TextIn.left l.initial.src) (g.T.TextIn.left l.src) (g.T.TextIn.faults l.initial.src) (g.T.TextIn.faults l.src) l.all.items l.limit

abbrev pub decreases-loop-all : goal.decreases-loop-all
decreases-loop-all g l = l.limit - vec_len l.all
