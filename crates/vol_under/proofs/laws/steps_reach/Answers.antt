use Rattle.vol_under.proofs.Reach.{steps_reach}
use Rattle.vol_under.specs.Chains.{anywhere}
use Rattle.vol_under.proofs.laws.steps_reach.Goals as goal

pub returns : goal.returns
returns c = steps_reach anywhere
