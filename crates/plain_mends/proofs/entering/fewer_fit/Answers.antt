use Rattle.plain_mends.proofs.Fewer.{room_stays_lacking}
use Rattle.plain_mends.proofs.entering.fewer_fit.Goals as goal

pub returns : goal.returns
returns _ = room_stays_lacking
