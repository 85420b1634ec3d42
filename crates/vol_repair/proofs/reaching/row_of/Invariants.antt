use Rattle.std.proofs.Common.{◌≡◌, map}
use Rattle.std.specs.List.{range_with_len}
use Rattle.vol_faults.specs.Reaching.{leads}
use Rattle.vol_repair.proofs.reaching.row_of.Given as goal

abbrev pub invariant-loop-m : goal.invariant-loop-m
invariant-loop-m l = l.row ≡ map (leads l.cat l.n) (range_with_len 0 l.m)
