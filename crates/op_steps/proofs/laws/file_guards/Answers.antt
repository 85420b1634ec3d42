use Rattle.op_steps.proofs.FileGuards.{file_guards}
use Rattle.op_steps.proofs.laws.file_guards.Goals as goal

pub returns : goal.returns
returns c = file_guards
