use Rattle.std.proofs.Common.{◌≡◌, ◌++◌, suc, drop}
use Rattle.fx_dir.specs.Moves.{rising}
use Rattle.fx_dir.proofs.moves.rising.Given as goal

abbrev pub invariant-loop-i : goal.invariant-loop-i
invariant-loop-i l = l.moves.items ++ rising (suc l.i) (drop l.i l.old) (drop l.i l.new) ≡ rising 1 l.old l.new
