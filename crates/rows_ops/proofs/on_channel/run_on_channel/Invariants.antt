use Rattle.rows_ops.specs.Alone.{IsSeenOpen}
use Rattle.rows_ops.proofs.on_channel.run_on_channel.Given as goal

abbrev pub invariant-loop : goal.invariant-loop
invariant-loop g l = IsSeenOpen (g.O.Operation.cmd_is l.op) l.blocks l.seen
