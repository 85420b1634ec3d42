use Rattle.vol_mends.proofs.SoundMends.{spelt_mends}
use Rattle.vol_mends.proofs.weak.spelt_mends.Goals as goal

pub returns : goal.returns
returns _ = spelt_mends
