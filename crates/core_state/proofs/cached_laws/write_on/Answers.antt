use Rattle.core_state.proofs.Committed.{write_on}
use Rattle.core_state.proofs.cached_laws.write_on.Goals as goal

pub returns : goal.returns
returns c = write_on
