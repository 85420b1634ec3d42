use Rattle.core_space.proofs.Filled.{takes_lowest}
use Rattle.core_space.proofs.laws.takes_lowest.Goals as goal

pub returns : goal.returns
returns c = takes_lowest
