use Rattle.std.proofs.Common.{◌≡◌, drop}
use Rattle.fx_dir.specs.Moves.{as_new}
use Rattle.fx_dir.proofs.moves.marks_of.Given as goal

abbrev pub invariant-loop-x : goal.invariant-loop-x
invariant-loop-x l = as_new (drop l.x-index l.es) l.e ≡ as_new l.es l.e
