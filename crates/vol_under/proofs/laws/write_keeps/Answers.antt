use Rattle.vol_under.proofs.Steps.{write_keeps}
use Rattle.vol_under.proofs.laws.write_keeps.Goals as goal

pub returns : goal.returns
returns c = write_keeps
