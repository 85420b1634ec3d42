use Rattle.vol_repair.proofs.Staying.{touched_keeps}
use Rattle.vol_repair.proofs.laws.touched_keeps.Goals as goal

pub returns : goal.returns
returns _ = touched_keeps
