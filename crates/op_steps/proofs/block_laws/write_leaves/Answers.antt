use Rattle.op_steps.proofs.WriteGuards.{write_leaves}
use Rattle.op_steps.proofs.block_laws.write_leaves.Goals as goal

pub returns : goal.returns
returns c = write_leaves
