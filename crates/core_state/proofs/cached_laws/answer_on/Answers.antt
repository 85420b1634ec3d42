use Rattle.core_state.proofs.Committed.{answer_on}
use Rattle.core_state.proofs.cached_laws.answer_on.Goals as goal

pub returns : goal.returns
returns c = answer_on
