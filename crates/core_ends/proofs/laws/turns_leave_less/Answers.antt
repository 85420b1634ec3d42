use Rattle.core_ends.proofs.Falling.{turns_leave_less}
use Rattle.core_ends.proofs.laws.turns_leave_less.Goals as goal

pub returns : goal.returns
returns _ = turns_leave_less
