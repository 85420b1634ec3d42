use Rattle.core_space.proofs.Refused.{refused_last}
use Rattle.core_space.proofs.laws.refused_last.Goals as goal

pub returns : goal.returns
returns c = refused_last
