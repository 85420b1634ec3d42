use Rattle.vol_under.proofs.Reach.{step_kinds}
use Rattle.vol_under.proofs.laws.step_kinds.Goals as goal

pub returns : goal.returns
returns c = step_kinds
