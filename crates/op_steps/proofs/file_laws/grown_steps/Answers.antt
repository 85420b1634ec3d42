use Rattle.op_steps.proofs.GrownSteps.{grown_steps}
use Rattle.vol_under.specs.Chains.{anywhere}
use Rattle.op_steps.proofs.file_laws.grown_steps.Goals as goal

pub returns : goal.returns
returns c = grown_steps anywhere
