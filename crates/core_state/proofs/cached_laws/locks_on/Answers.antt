use Rattle.core_state.proofs.Committed.{locks_on}
use Rattle.core_state.proofs.cached_laws.locks_on.Goals as goal

pub returns : goal.returns
returns c = locks_on
