use Rattle.op_steps.proofs.HeaderWrites.{grown_ends}
use Rattle.op_steps.proofs.file_laws.grown_ends.Goals as goal

pub returns : goal.returns
returns c = grown_ends
