use Rattle.vol_under.specs.Chains.{anywhere}
use Rattle.op_steps.proofs.RowNewSteps.{new_row_steps}
use Rattle.op_steps.proofs.laws.new_row_steps.Goals as goal

pub returns : goal.returns
returns c = new_row_steps anywhere
