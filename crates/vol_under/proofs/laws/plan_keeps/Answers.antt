use Rattle.vol_under.proofs.Steps.{plan_keeps}
use Rattle.vol_under.proofs.laws.plan_keeps.Goals as goal

pub returns : goal.returns
returns c = plan_keeps
