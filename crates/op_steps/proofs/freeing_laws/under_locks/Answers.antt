use Rattle.op_steps.proofs.Named.{under_locks}
use Rattle.op_steps.proofs.freeing_laws.under_locks.Goals as goal

pub returns : goal.returns
returns c = under_locks
