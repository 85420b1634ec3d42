use Rattle.op_steps.proofs.Steps.{storage_frees}
use Rattle.op_steps.proofs.freeing_laws.storage_frees.Goals as goal

pub returns : goal.returns
returns c = storage_frees
