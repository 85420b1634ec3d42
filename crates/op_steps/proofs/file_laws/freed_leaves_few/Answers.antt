use Rattle.op_steps.proofs.HeaderWrites.{freed_leaves_few}
use Rattle.op_steps.proofs.file_laws.freed_leaves_few.Goals as goal

pub returns : goal.returns
returns c = freed_leaves_few
