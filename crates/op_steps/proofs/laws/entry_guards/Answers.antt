use Rattle.op_steps.proofs.EntrySteps.{entry_guards}
use Rattle.op_steps.proofs.laws.entry_guards.Goals as goal

pub returns : goal.returns
returns c = entry_guards
