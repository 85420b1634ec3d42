use Rattle.vol_mends.proofs.GoingSteps.{goes_on}
use Rattle.vol_mends.proofs.going.mending_goes_on.Goals as goal

pub returns : goal.returns
returns _ = goes_on
