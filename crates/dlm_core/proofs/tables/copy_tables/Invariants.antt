use Rattle.std.proofs.Common.{◌≡◌, take}
use Rattle.dlm_core.proofs.tables.copy_tables.Given as goal

abbrev pub invariant-loop-t : goal.invariant-loop-t
invariant-loop-t l = l.all.items ≡ take l.t-index l.tables
