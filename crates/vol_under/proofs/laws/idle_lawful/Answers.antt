use Rattle.vol_under.proofs.Steps.{idle_lawful}
use Rattle.vol_under.proofs.laws.idle_lawful.Goals as goal

pub returns : goal.returns
returns c = idle_lawful
