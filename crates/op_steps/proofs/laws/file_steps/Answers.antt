use Rattle.vol_under.specs.Chains.{anywhere}
use Rattle.op_steps.proofs.FileSteps.{file_steps}
use Rattle.op_steps.proofs.laws.file_steps.Goals as goal

pub returns : goal.returns
returns c = file_steps anywhere
