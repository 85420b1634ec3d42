use Rattle.op_steps.proofs.Endings.{held_keeps_out}
use Rattle.op_steps.proofs.freeing_laws.held_keeps_out.Goals as goal

pub returns : goal.returns
returns c = held_keeps_out
