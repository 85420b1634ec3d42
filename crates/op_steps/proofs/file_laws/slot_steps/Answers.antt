use Rattle.op_steps.proofs.SlotSteps.{slot_steps}
use Rattle.vol_under.specs.Chains.{anywhere}
use Rattle.op_steps.proofs.file_laws.slot_steps.Goals as goal

pub returns : goal.returns
returns c = slot_steps anywhere
