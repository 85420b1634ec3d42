use Rattle.core_state.proofs.Outside.{locked_so}
use Rattle.core_state.proofs.laws.stocks_are_locked.Goals as goal

pub returns : goal.returns
returns _ = λ w n s good at. locked_so w good n s at
