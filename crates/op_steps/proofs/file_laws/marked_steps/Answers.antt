use Rattle.vol_under.specs.Chains.{anywhere}
use Rattle.op_steps.proofs.Kept.{marked_steps}
use Rattle.op_steps.proofs.file_laws.marked_steps.Goals as goal

pub returns : goal.returns
returns c = marked_steps anywhere
