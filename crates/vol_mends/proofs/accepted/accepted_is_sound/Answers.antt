use Rattle.vol_mends.proofs.AcceptedSteps.{accepted_is_sound}
use Rattle.vol_mends.proofs.accepted.accepted_is_sound.Goals as goal

pub returns : goal.returns
returns _ = accepted_is_sound
