use Rattle.std.proofs.Common.{◌≡◌, take}
use Rattle.op_law.specs.Headers.{slots_seen}
use Rattle.op_extend.proofs.cutting.slots_seen.Given as goal

abbrev pub invariant-loop-lbn : goal.invariant-loop-lbn
invariant-loop-lbn l = l.numbers ≡ slots_seen l.g (take l.lbn-index l.seen)
