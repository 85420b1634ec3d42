use Rattle.core_state.proofs.Committed.{alike_on}
use Rattle.core_state.proofs.cached_laws.alike_on.Goals as goal

pub returns : goal.returns
returns c = alike_on
