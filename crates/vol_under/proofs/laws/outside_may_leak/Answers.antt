use Rattle.vol_under.proofs.Leaking.{outside_may_leak}
use Rattle.vol_under.proofs.laws.outside_may_leak.Goals as goal

pub returns : goal.returns
returns c = outside_may_leak
