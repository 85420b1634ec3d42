use Rattle.op_steps.proofs.RemovalSteps.{removal_guards}
use Rattle.op_steps.proofs.laws.removal_guards.Goals as goal

pub returns : goal.returns
returns c = removal_guards
