use Rattle.op_steps.proofs.Named.{guarded}
use Rattle.op_steps.proofs.freeing_laws.guarded.Goals as goal

pub returns : goal.returns
returns c = guarded
