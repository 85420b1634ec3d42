use Rattle.vol_under.proofs.Planning.{bits_keep_with_plan}
use Rattle.vol_under.proofs.space_laws.bits_keep_with_plan.Goals as goal

pub returns : goal.returns
returns c = bits_keep_with_plan
