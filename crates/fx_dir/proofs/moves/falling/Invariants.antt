use Rattle.std.proofs.Common.{◌≡◌, ◌≤◌, suc, length, drop}
use Rattle.fx_dir.specs.Moves.{falling}
use Rattle.fx_dir.proofs.moves.falling.Given as goal

abbrev pub invariant-loop-i : goal.invariant-loop-i
invariant-loop-i l = record {
  within : l.i ≤ length l.old;
  so_far : l.moves.items ≡ falling (suc l.i) (drop l.i l.old) (drop l.i l.new);
}

abbrev pub decreases-loop-i : goal.decreases-loop-i
decreases-loop-i l = l.i
