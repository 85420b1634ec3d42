use Rattle.vol_mends.proofs.Entering.{lost_is_entered}
use Rattle.vol_mends.proofs.entries.lost_is_entered.Goals as goal

pub returns : goal.returns
returns _ = lost_is_entered
