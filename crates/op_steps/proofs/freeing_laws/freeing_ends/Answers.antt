use Rattle.op_steps.proofs.Endings.{freeing_ends}
use Rattle.op_steps.proofs.freeing_laws.freeing_ends.Goals as goal

pub returns : goal.returns
returns c = freeing_ends
