use Rattle.op_steps.proofs.HeaderWrites.{grown_leaves}
use Rattle.op_steps.proofs.file_laws.grown_leaves.Goals as goal

pub returns : goal.returns
returns c = grown_leaves
