use Rattle.std.proofs.Common.{◌≡◌, false, take}
use Rattle.core_state.specs.Asks.{has_asked}
use Rattle.core_step.proofs.searches.has_asked.Given as goal

abbrev pub invariant-loop-other : goal.invariant-loop-other
invariant-loop-other l = has_asked l.name (take l.other-index l.locks) ≡ false
