use Rattle.std.proofs.Common.{take}
use Rattle.vol_faults.specs.Walking.{AreClosed}
use Rattle.vol_faults.proofs.loops.close_all.Given as goal

abbrev pub invariant-loop-n : goal.invariant-loop-n
invariant-loop-n l = AreClosed (take l.n-index l.numbers) l.initial.places l.places
