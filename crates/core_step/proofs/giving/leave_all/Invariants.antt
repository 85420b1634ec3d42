use Rattle.std.proofs.Common.{◌≡◌, drop}
use Rattle.core_state.specs.Events.{left_alone}
use Rattle.core_step.specs.Giving.{MayLeaveAll}
use Rattle.core_step.proofs.giving.leave_all.Given as goal

abbrev pub invariant-loop-name : goal.invariant-loop-name
invariant-loop-name l = record {
  may : MayLeaveAll l.node (drop l.name-index l.held) l.locks;
  same : left_alone l.node (drop l.name-index l.held) l.locks ≡ left_alone l.node l.held l.initial.locks;
}
