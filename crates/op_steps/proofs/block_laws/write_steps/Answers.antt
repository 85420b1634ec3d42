use Rattle.vol_under.specs.Chains.{anywhere}
use Rattle.op_steps.proofs.WriteSteps.{write_steps}
use Rattle.op_steps.proofs.block_laws.write_steps.Goals as goal

pub returns : goal.returns
returns c = write_steps anywhere
