use Rattle.plain_mends.proofs.Frames.{leaks_end}
use Rattle.plain_mends.proofs.freeing.leaks_go.Goals as goal

pub returns : goal.returns
returns _ = leaks_end
