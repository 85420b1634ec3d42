use Rattle.op_steps.proofs.HeaderWrites.{cut_ends}
use Rattle.op_steps.proofs.file_laws.cut_ends.Goals as goal

pub returns : goal.returns
returns c = cut_ends
