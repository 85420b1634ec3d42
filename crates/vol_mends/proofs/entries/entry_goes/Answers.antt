use Rattle.vol_mends.proofs.MovedSteps.{entry_goes}
use Rattle.vol_mends.proofs.entries.entry_goes.Goals as goal

pub returns : goal.returns
returns _ = entry_goes
