use Rattle.core_state.proofs.Committed.{quiet_on}
use Rattle.core_state.proofs.cached_laws.quiet_on.Goals as goal

pub returns : goal.returns
returns c = quiet_on
