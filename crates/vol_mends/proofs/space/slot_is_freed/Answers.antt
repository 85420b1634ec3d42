use Rattle.vol_mends.proofs.Leaving.{slot_is_freed}
use Rattle.vol_mends.proofs.space.slot_is_freed.Goals as goal

pub returns : goal.returns
returns _ = slot_is_freed
