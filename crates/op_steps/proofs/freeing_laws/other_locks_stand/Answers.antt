use Rattle.op_steps.proofs.Still.{other_locks_stand}
use Rattle.op_steps.proofs.freeing_laws.other_locks_stand.Goals as goal

pub returns : goal.returns
returns c = other_locks_stand
