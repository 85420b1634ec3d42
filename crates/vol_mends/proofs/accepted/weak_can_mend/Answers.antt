use Rattle.vol_mends.proofs.AcceptedSteps.{weak_can_mend}
use Rattle.vol_mends.proofs.accepted.weak_can_mend.Goals as goal

pub returns : goal.returns
returns _ = weak_can_mend
