use Rattle.op_steps.proofs.HeaderWrites.{freed_fills}
use Rattle.op_steps.proofs.file_laws.freed_fills.Goals as goal

pub returns : goal.returns
returns c = freed_fills
