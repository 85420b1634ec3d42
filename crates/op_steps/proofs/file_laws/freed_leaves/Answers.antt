use Rattle.op_steps.proofs.HeaderWrites.{freed_leaves}
use Rattle.op_steps.proofs.file_laws.freed_leaves.Goals as goal

pub returns : goal.returns
returns c = freed_leaves
