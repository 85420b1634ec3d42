use Rattle.vol_mends.proofs.StartSteps.{start_is_settled}
use Rattle.vol_mends.proofs.going.start_is_settled.Goals as goal

pub returns : goal.returns
returns _ = start_is_settled
