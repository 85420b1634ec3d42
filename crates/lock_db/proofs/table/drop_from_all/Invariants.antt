use Rattle.std.proofs.Common.{◌≡◌, ◌++◌, take, drop, map}
use Rattle.lock_db.specs.Resources.{dropped_of}
use Rattle.lock_db.proofs.table.drop_from_all.Given as goal

abbrev pub invariant-loop-r : goal.invariant-loop-r
invariant-loop-r l = l.table ≡ map (dropped_of l.node) (take l.r-index l.fn.table) ++ drop l.r-index l.fn.table
