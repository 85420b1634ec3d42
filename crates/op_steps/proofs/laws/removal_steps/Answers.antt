use Rattle.op_steps.proofs.RemovalSteps.{removal_steps}
use Rattle.vol_under.specs.Chains.{anywhere}
use Rattle.op_steps.proofs.laws.removal_steps.Goals as goal

pub returns : goal.returns
returns c = removal_steps anywhere
