use Rattle.vol_mends.proofs.Cutting.{surplus_is_cut}
use Rattle.vol_mends.proofs.space.surplus_is_cut.Goals as goal

pub returns : goal.returns
returns _ = surplus_is_cut
