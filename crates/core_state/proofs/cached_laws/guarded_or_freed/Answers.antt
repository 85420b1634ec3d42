use Rattle.core_state.proofs.Heads.{guarded_or_freed}
use Rattle.core_state.proofs.cached_laws.guarded_or_freed.Goals as goal

pub returns : goal.returns
returns c = guarded_or_freed
