use Rattle.vol_mends.proofs.GoingSteps.{change_mends}
use Rattle.vol_mends.proofs.going.change_mends.Goals as goal

pub returns : goal.returns
returns _ = change_mends
