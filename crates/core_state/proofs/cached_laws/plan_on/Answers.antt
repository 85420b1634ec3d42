use Rattle.core_state.proofs.Committed.{plan_on}
use Rattle.core_state.proofs.cached_laws.plan_on.Goals as goal

pub returns : goal.returns
returns c = plan_on
