use Rattle.plain_past.proofs.Strangers.{strangers_have_nothing, own_strangers}
use Rattle.plain_past.proofs.laws.strangers_have_nothing.Goals as goal

pub returns-clause-apart : goal.returns-clause-apart
returns-clause-apart c = strangers_have_nothing

pub returns-clause-own : goal.returns-clause-own
returns-clause-own c = own_strangers
