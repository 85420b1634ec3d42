use Rattle.op_steps.proofs.RowNewSteps.{new_row_guards}
use Rattle.op_steps.proofs.laws.new_row_guards.Goals as goal

pub returns : goal.returns
returns c = new_row_guards
