use Rattle.op_steps.proofs.EntrySteps.{entry_steps}
use Rattle.vol_under.specs.Chains.{anywhere}
use Rattle.op_steps.proofs.laws.entry_steps.Goals as goal

pub returns : goal.returns
returns c = entry_steps anywhere
