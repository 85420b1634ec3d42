use Rattle.vol_mends.proofs.SoundMends.{sound_is_readable}
use Rattle.vol_mends.proofs.weak.sound_is_readable.Goals as goal

pub returns : goal.returns
returns _ = sound_is_readable
