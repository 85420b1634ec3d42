use Rattle.std.proofs.Common.{◌≡◌}
use Rattle.rows_ops.specs.Alone.{IsInOrder, IsSeenAlone, needs_met}
use Rattle.rows_ops.proofs.alone.run_alone.Given as goal

abbrev pub invariant-loop : goal.invariant-loop
invariant-loop g l = record { order : IsInOrder l.blocks; alone : IsSeenAlone (g.O.Operation.cmd_is l.op) l.blocks l.seen; met : needs_met l.seen ≡ l.counter }
