use Rattle.vol_under.proofs.Frees.{outside_series}
use Rattle.vol_under.specs.Chains.{anywhere}
use Rattle.vol_under.proofs.laws.outside_series.Goals as goal

pub returns : goal.returns
returns c = outside_series anywhere
