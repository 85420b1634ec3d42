use Rattle.vol_under.proofs.Steps.{ready_keeps}
use Rattle.vol_under.proofs.laws.ready_keeps.Goals as goal

pub returns : goal.returns
returns c = ready_keeps
