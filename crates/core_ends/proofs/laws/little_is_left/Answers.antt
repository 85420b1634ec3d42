use Rattle.core_ends.proofs.Stepping.{little_is_left}
use Rattle.core_ends.proofs.laws.little_is_left.Goals as goal

pub returns : goal.returns
returns _ = little_is_left
