use Rattle.vol_under.proofs.Endings.{leak_keeps}
use Rattle.vol_under.proofs.laws.leak_keeps.Goals as goal

pub returns : goal.returns
returns c = leak_keeps
