use Rattle.std.proofs.Common.{◌≡◌, filter, take}
use Rattle.dlm_core.specs.Deaths.{goes_on}
use Rattle.dlm_core.proofs.deaths.left_recoveries.Given as goal

abbrev pub invariant-loop-d : goal.invariant-loop-d
invariant-loop-d l = l.all.items ≡ filter (goes_on l.homes) (take l.d-index l.recoveries)
