use Rattle.core_space.proofs.Filled.{fillings_refill}
use Rattle.core_space.proofs.laws.fillings_refill.Goals as goal

pub returns : goal.returns
returns c = fillings_refill
