use Rattle.vol_mends.proofs.Summing.{rows_are_summed}
use Rattle.vol_mends.proofs.space.rows_are_summed.Goals as goal

pub returns : goal.returns
returns _ = rows_are_summed
