use Rattle.op_steps.proofs.FreedSteps.{freed_steps}
use Rattle.vol_under.specs.Chains.{anywhere}
use Rattle.op_steps.proofs.file_laws.freed_steps.Goals as goal

pub returns : goal.returns
returns c = freed_steps anywhere
