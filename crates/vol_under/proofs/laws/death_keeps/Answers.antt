use Rattle.vol_under.proofs.Endings.{death_keeps}
use Rattle.vol_under.proofs.laws.death_keeps.Goals as goal

pub returns : goal.returns
returns c = death_keeps
