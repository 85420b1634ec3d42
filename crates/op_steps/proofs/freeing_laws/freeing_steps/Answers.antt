use Rattle.vol_under.specs.Chains.{anywhere}
use Rattle.op_steps.proofs.Steps.{freeing_steps}
use Rattle.op_steps.proofs.freeing_laws.freeing_steps.Goals as goal

pub returns : goal.returns
returns c = freeing_steps anywhere
