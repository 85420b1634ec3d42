use Rattle.vol_mends.proofs.StartSteps.{write_mends}
use Rattle.vol_mends.proofs.going.write_mends.Goals as goal

pub returns : goal.returns
returns _ = write_mends
