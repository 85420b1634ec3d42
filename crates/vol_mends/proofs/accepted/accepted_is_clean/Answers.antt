use Rattle.vol_mends.proofs.NoTails.{accepted_is_clean}
use Rattle.vol_mends.proofs.accepted.accepted_is_clean.Goals as goal

pub returns : goal.returns
returns _ = accepted_is_clean
