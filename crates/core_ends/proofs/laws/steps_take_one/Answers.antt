use Rattle.core_ends.proofs.Rounding.{steps_take_one}
use Rattle.core_ends.proofs.laws.steps_take_one.Goals as goal

pub returns : goal.returns
returns _ = steps_take_one
