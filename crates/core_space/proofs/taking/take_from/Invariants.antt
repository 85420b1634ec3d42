use Rattle.std.proofs.Common.{◌≤◌, ◌-◌}
use Rattle.core_space.proofs.Collecting.{TakenTo}
use Rattle.core_space.proofs.taking.take_from.Given as goal

abbrev pub invariant-loop-q : goal.invariant-loop-q
invariant-loop-q l = TakenTo l.wanted l.fn.taken l.first l.block l.taken l.left l.q × (l.q - l.first ≤ l.end - l.first)
