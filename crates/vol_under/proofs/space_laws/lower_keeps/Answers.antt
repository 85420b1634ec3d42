use Rattle.vol_under.proofs.Planning.{lower_keeps}
use Rattle.vol_under.proofs.space_laws.lower_keeps.Goals as goal

pub returns : goal.returns
returns c = lower_keeps
