use Rattle.vol_mends.proofs.Finished.{done_is_accepted}
use Rattle.vol_mends.proofs.done.done_is_accepted.Goals as goal

pub returns : goal.returns
returns _ = done_is_accepted
