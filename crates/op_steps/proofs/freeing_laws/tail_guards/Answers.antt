use Rattle.op_steps.proofs.Tails.{tail_guards}
use Rattle.op_steps.proofs.freeing_laws.tail_guards.Goals as goal

pub returns : goal.returns
returns c = tail_guards
