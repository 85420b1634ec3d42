use Rattle.vol_under.proofs.Steps.{nodes_alike}
use Rattle.vol_under.proofs.laws.nodes_alike.Goals as goal

pub returns : goal.returns
returns c = nodes_alike
