use Rattle.std.proofs.Common.{◌≡◌, ◌++◌}
use Rattle.fx_header.specs.Headers.{runs_in}
use Rattle.fx_header.specs.Iter.{runs_left}
use Rattle.vol_repair.proofs.bodies.listed.Given as goal

abbrev pub invariant-loop-run : goal.invariant-loop-run
invariant-loop-run l = l.all.items ++ runs_left l.run-iterator ≡ runs_in l.header
