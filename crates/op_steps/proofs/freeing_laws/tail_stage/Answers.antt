use Rattle.op_steps.proofs.Tails.{tail_stage}
use Rattle.op_steps.proofs.freeing_laws.tail_stage.Goals as goal

pub returns : goal.returns
returns c = tail_stage
