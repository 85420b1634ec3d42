use Rattle.core_ends.proofs.Stepping.{steps_leave_less}
use Rattle.core_ends.proofs.laws.steps_leave_less.Goals as goal

pub returns : goal.returns
returns _ = steps_leave_less
