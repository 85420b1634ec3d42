use Rattle.core_space.proofs.Filled.{writes_fill}
use Rattle.core_space.proofs.laws.writes_fill.Goals as goal

pub returns : goal.returns
returns c = writes_fill
