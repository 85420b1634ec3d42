use Rattle.vol_under.proofs.Steps.{grant_keeps}
use Rattle.vol_under.proofs.laws.grant_keeps.Goals as goal

pub returns : goal.returns
returns c = grant_keeps
