use Rattle.vol_under.proofs.Steps.{look_keeps}
use Rattle.vol_under.proofs.laws.look_keeps.Goals as goal

pub returns : goal.returns
returns c = look_keeps
