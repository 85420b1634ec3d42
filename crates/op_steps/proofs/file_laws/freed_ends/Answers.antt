use Rattle.op_steps.proofs.HeaderWrites.{freed_ends}
use Rattle.op_steps.proofs.file_laws.freed_ends.Goals as goal

pub returns : goal.returns
returns c = freed_ends
