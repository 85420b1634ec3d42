use Rattle.vol_repair.proofs.AlikeKeeping.{alike_keeps}
use Rattle.vol_repair.proofs.laws.alike_keeps.Goals as goal

pub returns : goal.returns
returns _ = alike_keeps
