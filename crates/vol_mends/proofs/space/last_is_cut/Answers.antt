use Rattle.vol_mends.proofs.Surplus.{last_is_cut}
use Rattle.vol_mends.proofs.space.last_is_cut.Goals as goal

pub returns : goal.returns
returns _ = last_is_cut
