use Rattle.std.proofs.Common.{◌≡◌, drop}
use Rattle.std.specs.List.{list_any}
use Rattle.dlm_core.specs.declared.homes.Home.{Home}
use Rattle.dlm_core.specs.Recoveries.{is_of_recovery}
use Rattle.dlm_core.proofs.deaths.goes_on.Given as goal

abbrev pub invariant-loop-h : goal.invariant-loop-h
invariant-loop-h l = list_any (λ (h : Home). is_of_recovery l.dead h.recovers) (drop l.h-index l.homes) ≡ list_any (λ (h : Home). is_of_recovery l.dead h.recovers) l.homes
