use Rattle.op_steps.proofs.HeaderWrites.{cut_leaves_few}
use Rattle.op_steps.proofs.file_laws.cut_leaves_few.Goals as goal

pub returns : goal.returns
returns c = cut_leaves_few
