use Rattle.std.proofs.Common.{take}
use Rattle.vol_faults.specs.Walking.{AreLowered}
use Rattle.vol_faults.proofs.loops.lowest_of.Given as goal

abbrev pub invariant-loop-n : goal.invariant-loop-n
invariant-loop-n l = AreLowered (take l.n-index l.numbers) l.fn.found l.lowest
