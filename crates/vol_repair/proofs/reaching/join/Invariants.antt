use Rattle.std.proofs.Common.{◌≡◌, take}
use Rattle.vol_repair.specs.Reached.{either}
use Rattle.vol_repair.proofs.reaching.join.Given as goal

abbrev pub invariant-loop-i : goal.invariant-loop-i
invariant-loop-i l = l.row ≡ either l.fn.row (take l.i l.other)
