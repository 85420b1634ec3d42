use Rattle.op_steps.proofs.HeaderWrites.{grown_guards}
use Rattle.op_steps.proofs.file_laws.grown_guards.Goals as goal

pub returns : goal.returns
returns c = grown_guards
