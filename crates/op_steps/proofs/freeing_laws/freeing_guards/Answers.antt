use Rattle.op_steps.proofs.Named.{freeing_guards}
use Rattle.op_steps.proofs.freeing_laws.freeing_guards.Goals as goal

pub returns : goal.returns
returns c = freeing_guards
