use Rattle.vol_under.specs.Chains.{anywhere}
use Rattle.op_steps.proofs.RowSteps.{row_steps}
use Rattle.op_steps.proofs.laws.row_steps.Goals as goal

pub returns : goal.returns
returns c = row_steps anywhere
