use Rattle.op_steps.proofs.GoneSteps.{gone_leaves}
use Rattle.op_steps.proofs.gone_laws.gone_leaves.Goals as goal

pub returns : goal.returns
returns c = gone_leaves
