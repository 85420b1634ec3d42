use Rattle.op_steps.proofs.GoneSteps.{gone_leaves_few}
use Rattle.op_steps.proofs.gone_laws.gone_leaves_few.Goals as goal

pub returns : goal.returns
returns c = gone_leaves_few
