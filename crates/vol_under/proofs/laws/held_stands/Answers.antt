use Rattle.vol_under.proofs.Steps.{held_stands}
use Rattle.vol_under.proofs.laws.held_stands.Goals as goal

pub returns : goal.returns
returns c = held_stands
