use Rattle.vol_mends.proofs.Seeing.{volume_is_seen}
use Rattle.vol_mends.proofs.entries.volume_is_seen.Goals as goal

pub returns : goal.returns
returns _ = volume_is_seen
