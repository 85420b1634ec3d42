use Rattle.op_steps.proofs.Tails.{tail_leaves_few}
use Rattle.op_steps.proofs.freeing_laws.tail_leaves_few.Goals as goal

pub returns : goal.returns
returns c = tail_leaves_few
