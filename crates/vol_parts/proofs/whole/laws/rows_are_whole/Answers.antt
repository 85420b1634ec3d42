use Rattle.vol_parts.proofs.Tables.{whole_row, whole_cleared}
use Rattle.vol_parts.proofs.whole.laws.rows_are_whole.Goals as goal

pub returns : goal.returns
returns c = record { row = whole_row; cleared = whole_cleared }
