use Rattle.op_steps.proofs.RowSteps.{row_guards}
use Rattle.op_steps.proofs.laws.row_guards.Goals as goal

pub returns : goal.returns
returns c = row_guards
