use Rattle.vol_under.proofs.Steps.{rest_stands}
use Rattle.vol_under.proofs.laws.rest_stands.Goals as goal

pub returns : goal.returns
returns c = rest_stands
