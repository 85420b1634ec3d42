use Rattle.op_steps.proofs.HeadSteps.{head_guards}
use Rattle.op_steps.proofs.file_laws.head_guards.Goals as goal

pub returns : goal.returns
returns c = head_guards
