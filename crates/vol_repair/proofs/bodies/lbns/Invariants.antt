use Rattle.std.proofs.Common.{◌≡◌, take}
use Rattle.fx_header.specs.Pointers.{lbns_in}
use Rattle.vol_repair.proofs.bodies.lbns.Given as goal

abbrev pub invariant-loop-run : goal.invariant-loop-run
invariant-loop-run l = l.all.items ≡ lbns_in (take l.run-index l.runs)
