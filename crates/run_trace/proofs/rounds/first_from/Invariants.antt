use Rattle.std.proofs.Common.{◌≡◌, ◌+◌, ◌-◌}
use Rattle.run_engine.specs.Walks.{first_from}
use Rattle.run_trace.proofs.rounds.first_from.Given as goal

abbrev pub invariant-loop-node : goal.invariant-loop-node
invariant-loop-node g l = first_from l.w.world l.from (l.last + 1 - l.from) ≡ first_from l.w.world l.node (l.last + 1 - l.node)
