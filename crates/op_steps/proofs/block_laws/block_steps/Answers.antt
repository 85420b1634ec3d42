use Rattle.vol_under.specs.Chains.{anywhere}
use Rattle.op_steps.proofs.BlockSteps.{block_steps}
use Rattle.op_steps.proofs.block_laws.block_steps.Goals as goal

pub returns : goal.returns
returns c = block_steps anywhere
