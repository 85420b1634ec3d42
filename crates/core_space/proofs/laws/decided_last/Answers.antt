use Rattle.core_space.proofs.Refused.{decided_last}
use Rattle.core_space.proofs.laws.decided_last.Goals as goal

pub returns : goal.returns
returns c = decided_last
