use Rattle.vol_under.proofs.InTurn.{body_series}
use Rattle.vol_under.specs.Chains.{anywhere}
use Rattle.vol_under.proofs.laws.body_series.Goals as goal

pub returns : goal.returns
returns c = body_series anywhere
