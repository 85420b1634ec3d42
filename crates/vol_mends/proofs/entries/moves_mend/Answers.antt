use Rattle.vol_mends.proofs.Leading.{moves_mend}
use Rattle.vol_mends.proofs.entries.moves_mend.Goals as goal

pub returns : goal.returns
returns _ = moves_mend
