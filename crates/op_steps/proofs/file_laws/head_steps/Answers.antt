use Rattle.vol_under.specs.Chains.{anywhere}
use Rattle.op_steps.proofs.HeadSteps.{head_steps}
use Rattle.op_steps.proofs.file_laws.head_steps.Goals as goal

pub returns : goal.returns
returns c = head_steps anywhere
