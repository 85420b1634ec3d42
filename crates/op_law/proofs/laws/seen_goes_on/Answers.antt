use Rattle.op_law.proofs.Going.{seen_goes_on}
use Rattle.op_law.proofs.laws.seen_goes_on.Goals as goal

pub returns : goal.returns
returns c = seen_goes_on
