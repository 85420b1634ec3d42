use Rattle.op_steps.proofs.WriteGuards.{write_guards}
use Rattle.op_steps.proofs.block_laws.write_guards.Goals as goal

pub returns : goal.returns
returns c = write_guards
