use Rattle.std.proofs.Common.{◌≡◌, take}
use Rattle.lock_db.proofs.table.copy.Given as goal

abbrev pub invariant-loop-r : goal.invariant-loop-r
invariant-loop-r l = l.all.items ≡ take l.r-index l.table
