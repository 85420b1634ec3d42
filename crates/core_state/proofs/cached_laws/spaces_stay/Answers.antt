use Rattle.core_state.proofs.Guarded.{spaces_stay}
use Rattle.core_state.proofs.cached_laws.spaces_stay.Goals as goal

pub returns : goal.returns
returns c = spaces_stay
