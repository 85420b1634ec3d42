use Rattle.plain_mends.proofs.Frames.{usage_end}
use Rattle.plain_mends.proofs.freeing.usage_goes.Goals as goal

pub returns : goal.returns
returns _ = usage_end
