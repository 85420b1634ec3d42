use Rattle.op_steps.proofs.GoneSteps.{gone_guards}
use Rattle.op_steps.proofs.gone_laws.gone_guards.Goals as goal

pub returns : goal.returns
returns c = gone_guards
