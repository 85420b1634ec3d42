use Rattle.vol_repair.proofs.MendingKeeping.{mending_keeps}
use Rattle.vol_repair.proofs.laws.mending_keeps.Goals as goal

pub returns : goal.returns
returns _ = mending_keeps
