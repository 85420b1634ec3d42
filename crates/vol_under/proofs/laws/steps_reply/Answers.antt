use Rattle.vol_under.proofs.Reach.{steps_reply}
use Rattle.vol_under.proofs.laws.steps_reply.Goals as goal

pub returns : goal.returns
returns c = steps_reply
