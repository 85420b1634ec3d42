use Rattle.vol_mends.proofs.Moved.{dir_is_read}
use Rattle.vol_mends.proofs.entries.dir_is_read.Goals as goal

pub returns : goal.returns
returns _ = dir_is_read
