use Rattle.vol_under.specs.Chains.{anywhere}
use Rattle.op_steps.proofs.Kept.{sized_steps}
use Rattle.op_steps.proofs.file_laws.sized_steps.Goals as goal

pub returns : goal.returns
returns c = sized_steps anywhere
