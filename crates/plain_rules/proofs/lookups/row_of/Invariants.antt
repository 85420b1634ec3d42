use Rattle.std.proofs.Common.{◌≡◌, drop}
use Rattle.plain_rules.specs.Lookups.{row_of}
use Rattle.plain_rules.proofs.lookups.row_of.Given as goal

abbrev pub invariant-loop-row : goal.invariant-loop-row
invariant-loop-row l = row_of l.owner (drop l.row-index l.rows) ≡ row_of l.owner l.rows
