use Rattle.vol_spell.proofs.RowRanges.{rows_in_range}
use Rattle.vol_spell.proofs.write_laws.rows_in_range.Goals as goal

pub returns : goal.returns
returns c = rows_in_range
