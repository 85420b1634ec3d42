use Rattle.op_steps.proofs.HeaderWrites.{grown_keeps_out}
use Rattle.op_steps.proofs.file_laws.grown_keeps_out.Goals as goal

pub returns : goal.returns
returns c = grown_keeps_out
