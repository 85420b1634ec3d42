use Rattle.op_steps.proofs.HeaderWrites.{cut_guards}
use Rattle.op_steps.proofs.file_laws.cut_guards.Goals as goal

pub returns : goal.returns
returns c = cut_guards
