use Rattle.op_steps.proofs.Named.{under_joined}
use Rattle.op_steps.proofs.freeing_laws.under_joined.Goals as goal

pub returns : goal.returns
returns c = under_joined
