use Rattle.vol_under.specs.Chains.{anywhere}
use Rattle.op_steps.proofs.GoneSteps.{gone_steps}
use Rattle.op_steps.proofs.gone_laws.gone_steps.Goals as goal

pub returns : goal.returns
returns c = gone_steps anywhere
