use Rattle.std.proofs.Common.{◌≡◌, map, take}
use Rattle.dlm_core.specs.Deaths.{rehomed}
use Rattle.dlm_core.proofs.deaths.rehome_all.Given as goal

abbrev pub invariant-loop-h : goal.invariant-loop-h
invariant-loop-h l = l.all.items ≡ map (rehomed l.dead l.next) (take l.h-index l.homes)
