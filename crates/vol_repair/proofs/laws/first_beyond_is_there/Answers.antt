use Rattle.vol_repair.proofs.Firsts.{first_beyond_is_there}
use Rattle.vol_repair.proofs.laws.first_beyond_is_there.Goals as goal

pub returns : goal.returns
returns c = first_beyond_is_there
