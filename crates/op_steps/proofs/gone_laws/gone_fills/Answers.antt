use Rattle.op_steps.proofs.GoneSteps.{gone_fills}
use Rattle.op_steps.proofs.gone_laws.gone_fills.Goals as goal

pub returns : goal.returns
returns c = gone_fills
