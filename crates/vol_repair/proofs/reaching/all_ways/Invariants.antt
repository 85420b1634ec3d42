use Rattle.std.proofs.Common.{◌+◌, ◌-◌, length}
use Rattle.std.specs.List.{range_with_len}
use Rattle.vol_repair.specs.Reached.{AreRows}
use Rattle.vol_repair.proofs.reaching.all_ways.Given as goal

abbrev pub invariant-loop-i : goal.invariant-loop-i
invariant-loop-i l = AreRows l.cat (range_with_len (length l.cat.files - l.i + 1) l.i) l.rows.items
