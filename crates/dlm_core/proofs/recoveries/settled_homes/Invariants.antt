use Rattle.std.proofs.Common.{◌≡◌, map, take}
use Rattle.dlm_core.specs.Recoveries.{settled_home}
use Rattle.dlm_core.proofs.recoveries.settled_homes.Given as goal

abbrev pub invariant-loop-h : goal.invariant-loop-h
invariant-loop-h l = l.all.items ≡ map (settled_home l.dead) (take l.h-index l.homes)
