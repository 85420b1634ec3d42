use Rattle.op_steps.proofs.CutSteps.{cut_steps}
use Rattle.vol_under.specs.Chains.{anywhere}
use Rattle.op_steps.proofs.file_laws.cut_steps.Goals as goal

pub returns : goal.returns
returns c = cut_steps anywhere
