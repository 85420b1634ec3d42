use Rattle.op_steps.proofs.HeaderWrites.{grown_fills}
use Rattle.op_steps.proofs.file_laws.grown_fills.Goals as goal

pub returns : goal.returns
returns c = grown_fills
