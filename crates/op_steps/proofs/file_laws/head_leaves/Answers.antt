use Rattle.op_steps.proofs.HeadSteps.{head_leaves}
use Rattle.op_steps.proofs.file_laws.head_leaves.Goals as goal

pub returns : goal.returns
returns c = head_leaves
