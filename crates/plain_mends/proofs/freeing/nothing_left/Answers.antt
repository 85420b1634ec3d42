use Rattle.plain_mends.proofs.DoneSteps.{done_mends}
use Rattle.plain_mends.proofs.freeing.nothing_left.Goals as goal

pub returns : goal.returns
returns _ = done_mends
