use Rattle.std.proofs.Common.{◌≡◌, take}
use Rattle.dlm_core.specs.Deaths.{left_awaited}
use Rattle.dlm_core.proofs.deaths.left_awaited.Given as goal

abbrev pub invariant-loop-w : goal.invariant-loop-w
invariant-loop-w l = l.all.items ≡ left_awaited l.dead l.homes (take l.w-index l.awaited)
