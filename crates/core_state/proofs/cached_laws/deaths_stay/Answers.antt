use Rattle.core_state.proofs.Guarded.{deaths_stay}
use Rattle.core_state.proofs.cached_laws.deaths_stay.Goals as goal

pub returns : goal.returns
returns c = deaths_stay
