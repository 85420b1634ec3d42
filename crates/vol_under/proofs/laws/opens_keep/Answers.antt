use Rattle.vol_under.proofs.Endings.{opens_keep}
use Rattle.vol_under.proofs.laws.opens_keep.Goals as goal

pub returns : goal.returns
returns c = opens_keep
