use Rattle.std.proofs.Common.{◌≡◌, replicate, []}
use Rattle.dlm_core.proofs.tables.new_tables.Given as goal

abbrev pub invariant-loop : goal.invariant-loop
invariant-loop l = l.tables.items ≡ replicate l.counter []
