use Rattle.std.proofs.Common.{◌≡◌, ◌++◌, take, drop, map}
use Rattle.vol_repair.specs.Reached.{passed_row}
use Rattle.vol_repair.proofs.reaching.pass_rows.Given as goal

abbrev pub invariant-loop-row : goal.invariant-loop-row
invariant-loop-row l = l.rows ≡ map (passed_row l.x l.through) (take l.row-index l.fn.rows) ++ drop l.row-index l.fn.rows
