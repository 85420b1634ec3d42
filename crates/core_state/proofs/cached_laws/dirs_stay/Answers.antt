use Rattle.core_state.proofs.Guarded.{dirs_stay}
use Rattle.core_state.proofs.cached_laws.dirs_stay.Goals as goal

pub returns : goal.returns
returns c = dirs_stay
