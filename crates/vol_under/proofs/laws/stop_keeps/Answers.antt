use Rattle.vol_under.proofs.Steps.{stop_keeps}
use Rattle.vol_under.proofs.laws.stop_keeps.Goals as goal

pub returns : goal.returns
returns c = stop_keeps
