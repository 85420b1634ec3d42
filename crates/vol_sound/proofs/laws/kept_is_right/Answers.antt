use Rattle.vol_sound.proofs.KeptRight.{kept_is_right}
use Rattle.vol_sound.proofs.laws.kept_is_right.Goals as goal

pub returns : goal.returns
returns _ = kept_is_right
