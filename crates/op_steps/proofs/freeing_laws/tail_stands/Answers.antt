use Rattle.op_steps.proofs.Tails.{tail_stands}
use Rattle.op_steps.proofs.freeing_laws.tail_stands.Goals as goal

pub returns : goal.returns
returns c = tail_stands
