use Rattle.vol_under.proofs.Reach.{steps_lawful}
use Rattle.vol_under.proofs.laws.steps_lawful.Goals as goal

pub returns : goal.returns
returns c = steps_lawful
