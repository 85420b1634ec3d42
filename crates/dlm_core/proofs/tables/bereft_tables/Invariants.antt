use Rattle.std.proofs.Common.{◌≡◌, take}
use Rattle.dlm_core.specs.Deaths.{bereft_tables}
use Rattle.dlm_core.proofs.tables.bereft_tables.Given as goal

abbrev pub invariant-loop-i : goal.invariant-loop-i
invariant-loop-i l = l.all.items ≡ bereft_tables l.dead (take l.i l.homes) (take l.i l.tables)
