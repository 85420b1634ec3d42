use Rattle.std.proofs.Common.{◌≡◌, map}
use Rattle.std.specs.List.{range_with_len}
use Rattle.vol_repair.specs.Reached.{row_of}
use Rattle.vol_repair.proofs.reaching.rows_of.Given as goal

abbrev pub invariant-loop-n : goal.invariant-loop-n
invariant-loop-n l = l.rows.items ≡ map (row_of l.cat) (range_with_len 0 l.n)
