use Rattle.op_steps.proofs.GoneSteps.{gone_ends}
use Rattle.op_steps.proofs.gone_laws.gone_ends.Goals as goal

pub returns : goal.returns
returns c = gone_ends
