use Rattle.fx_dir.proofs.Placing.{Standing}
use Rattle.fx_dir.proofs.writing.block_of.Given as goal

abbrev pub invariant-loop-i : goal.invariant-loop-i
invariant-loop-i l = Standing l.es l.i l.at l.b
