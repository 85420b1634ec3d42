use Rattle.plain_laws.proofs.RefusalSteps.{refusal_stays}
use Rattle.plain_laws.proofs.refusing.refusals_change_nothing.Goals as goal

pub returns : goal.returns
returns c = refusal_stays
