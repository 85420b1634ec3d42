use Rattle.core_state.proofs.Committed.{commit_on}
use Rattle.core_state.proofs.cached_laws.commit_on.Goals as goal

pub returns : goal.returns
returns c = commit_on
