use Rattle.vol_repair.proofs.Touching.{touching_is_easy}
use Rattle.vol_repair.proofs.laws.touching_is_easy.Goals as goal

pub returns : goal.returns
returns _ = touching_is_easy
