use Rattle.vol_mends.proofs.SoundMends.{sound_can_mend}
use Rattle.vol_mends.proofs.weak.sound_can_mend.Goals as goal

pub returns : goal.returns
returns _ = sound_can_mend
