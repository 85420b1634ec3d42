use Rattle.std.proofs.Common.{◌≡◌, nat_lt}
use Rattle.fx_header.specs.Headers.{runs_in}
use Rattle.fx_header.specs.Iter.{runs_left}
use Rattle.fx_header.specs.Pointers.{blocks_in}
use Rattle.vol_rebuild.proofs.surplus.lists_more.Given as goal

abbrev pub invariant-loop-run : goal.invariant-loop-run
invariant-loop-run l = nat_lt l.left (blocks_in (runs_left l.run-iterator)) ≡ nat_lt l.count (blocks_in (runs_in l.header))
