use Rattle.op_steps.proofs.WriteGuards.{write_fills}
use Rattle.op_steps.proofs.block_laws.write_fills.Goals as goal

pub returns : goal.returns
returns c = write_fills
