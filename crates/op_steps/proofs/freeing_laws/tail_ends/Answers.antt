use Rattle.op_steps.proofs.Tails.{tail_ends}
use Rattle.op_steps.proofs.freeing_laws.tail_ends.Goals as goal

pub returns : goal.returns
returns c = tail_ends
