use Rattle.core_state.proofs.Committed.{opens_on}
use Rattle.core_state.proofs.cached_laws.opens_on.Goals as goal

pub returns : goal.returns
returns c = opens_on
