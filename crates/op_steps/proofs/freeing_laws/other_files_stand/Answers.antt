use Rattle.op_steps.proofs.Still.{other_files_stand}
use Rattle.op_steps.proofs.freeing_laws.other_files_stand.Goals as goal

pub returns : goal.returns
returns c = other_files_stand
