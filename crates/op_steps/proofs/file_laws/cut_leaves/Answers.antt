use Rattle.op_steps.proofs.HeaderWrites.{cut_leaves}
use Rattle.op_steps.proofs.file_laws.cut_leaves.Goals as goal

pub returns : goal.returns
returns c = cut_leaves
