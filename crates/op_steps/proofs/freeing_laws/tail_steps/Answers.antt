use Rattle.vol_under.specs.Chains.{anywhere}
use Rattle.op_steps.proofs.Tails.{tail_steps}
use Rattle.op_steps.proofs.freeing_laws.tail_steps.Goals as goal

pub returns : goal.returns
returns c = tail_steps anywhere
