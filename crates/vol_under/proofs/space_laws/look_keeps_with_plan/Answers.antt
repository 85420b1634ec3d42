use Rattle.vol_under.proofs.Planning.{look_keeps_with_plan}
use Rattle.vol_under.proofs.space_laws.look_keeps_with_plan.Goals as goal

pub returns : goal.returns
returns c = look_keeps_with_plan
