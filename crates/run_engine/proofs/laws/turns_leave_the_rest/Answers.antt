use Rattle.run_engine.proofs.Staying.{step_stays}
use Rattle.run_engine.proofs.laws.turns_leave_the_rest.Goals as goal

pub returns : goal.returns
returns c = step_stays
