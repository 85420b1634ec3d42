use Rattle.vol_mends.proofs.WeakSteps.{spelt_is_weak}
use Rattle.vol_mends.proofs.weak.spelt_is_weak.Goals as goal

pub returns : goal.returns
returns _ = spelt_is_weak
