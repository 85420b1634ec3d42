use Rattle.std.proofs.Common.{◌≡◌, drop}
use Rattle.std.specs.List.{list_any}
use Rattle.core_state.specs.Raises.{frees}
use Rattle.core_step.proofs.raises.any_frees.Given as goal

abbrev pub invariant-loop-w : goal.invariant-loop-w
invariant-loop-w l = list_any (frees l.g l.name) (drop l.w-index l.ws) ≡ list_any (frees l.g l.name) l.ws
