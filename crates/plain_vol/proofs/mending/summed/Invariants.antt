use Rattle.std.proofs.Common.{◌≡◌, map, take}
use Rattle.plain_rules.specs.Mending.{summed_row}
use Rattle.plain_vol.proofs.mending.summed.Given as goal

abbrev pub invariant-loop-row : goal.invariant-loop-row
invariant-loop-row l = l.rows ≡ map (summed_row l.cat) (take l.row-index l.row-items)
