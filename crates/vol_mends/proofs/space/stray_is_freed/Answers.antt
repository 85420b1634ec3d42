use Rattle.vol_mends.proofs.Strays.{stray_is_freed}
use Rattle.vol_mends.proofs.space.stray_is_freed.Goals as goal

pub returns : goal.returns
returns _ = stray_is_freed
