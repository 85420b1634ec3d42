use Rattle.vol_under.proofs.Planning.{forget_keeps}
use Rattle.vol_under.proofs.space_laws.forget_keeps.Goals as goal

pub returns : goal.returns
returns c = forget_keeps
