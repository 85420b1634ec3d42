use Rattle.core_ends.proofs.Rounding.{none_is_left}
use Rattle.core_ends.proofs.laws.none_is_left.Goals as goal

pub returns : goal.returns
returns _ = none_is_left
