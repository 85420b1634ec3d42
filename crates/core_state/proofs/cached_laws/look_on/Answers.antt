use Rattle.core_state.proofs.Committed.{look_on}
use Rattle.core_state.proofs.cached_laws.look_on.Goals as goal

pub returns : goal.returns
returns c = look_on
