use Rattle.core_state.proofs.Heads.{heads_left}
use Rattle.core_state.proofs.cached_laws.heads_left.Goals as goal

pub returns : goal.returns
returns c = heads_left
