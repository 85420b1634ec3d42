use Rattle.core_state.proofs.Committed.{bits_keep_on}
use Rattle.core_state.proofs.cached_laws.bits_keep_on.Goals as goal

pub returns : goal.returns
returns c = bits_keep_on
