use Rattle.vol_under.proofs.Short.{out_alike}
use Rattle.vol_under.proofs.laws.out_alike.Goals as goal

pub returns : goal.returns
returns c = out_alike
