use Rattle.vol_mends.proofs.MovedSteps.{dir_is_packed}
use Rattle.vol_mends.proofs.entries.dir_is_packed.Goals as goal

pub returns : goal.returns
returns _ = dir_is_packed
