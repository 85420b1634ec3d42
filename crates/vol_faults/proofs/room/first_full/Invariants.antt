use Rattle.std.proofs.Common.{take}
use Rattle.vol_faults.specs.Waiting.{AreEntered}
use Rattle.vol_faults.proofs.room.first_full.Given as goal

abbrev pub invariant-loop-n : goal.invariant-loop-n
invariant-loop-n l = AreEntered l.cat (take l.n-index l.waiting) l.entries
