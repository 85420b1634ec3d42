use Rattle.op_steps.proofs.HeaderWrites.{freed_guards}
use Rattle.op_steps.proofs.file_laws.freed_guards.Goals as goal

pub returns : goal.returns
returns c = freed_guards
