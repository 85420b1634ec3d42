use Rattle.vol_under.proofs.Frees.{free_series}
use Rattle.vol_under.specs.Chains.{anywhere}
use Rattle.vol_under.proofs.laws.free_series.Goals as goal

pub returns : goal.returns
returns c = free_series anywhere
