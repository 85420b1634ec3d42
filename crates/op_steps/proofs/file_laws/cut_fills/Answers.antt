use Rattle.op_steps.proofs.HeaderWrites.{cut_fills}
use Rattle.op_steps.proofs.file_laws.cut_fills.Goals as goal

pub returns : goal.returns
returns c = cut_fills
