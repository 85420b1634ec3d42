use Rattle.vol_under.proofs.Steps.{bits_keep}
use Rattle.vol_under.proofs.laws.bits_keep.Goals as goal

pub returns : goal.returns
returns c = bits_keep
