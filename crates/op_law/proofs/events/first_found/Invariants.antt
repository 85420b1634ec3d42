use Rattle.std.proofs.Common.{drop}
use Rattle.op_law.proofs.Wanted.{IsLeft}
use Rattle.op_law.proofs.events.first_found.Given as goal

abbrev pub invariant-loop-block : goal.invariant-loop-block
invariant-loop-block l = IsLeft l.name l.ver l.seen (drop l.block-index l.seen)
