use Rattle.vol_under.specs.Chains.{anywhere}
use Rattle.op_steps.proofs.Tails.{discharge_steps}
use Rattle.op_steps.proofs.freeing_laws.discharge_steps.Goals as goal

pub returns : goal.returns
returns c = discharge_steps anywhere
