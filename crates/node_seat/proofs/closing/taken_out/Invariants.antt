use Rattle.std.proofs.Common.{◌≡◌}
use Rattle.node_seat.proofs.closing.taken_out.Given as goal

abbrev pub invariant-loop : goal.invariant-loop
invariant-loop g l = record { table : l.own.table_id ≡ l.fn.own.table_id; id : l.own.id ≡ l.fn.own.id; me : l.own.me ≡ l.fn.own.me }
