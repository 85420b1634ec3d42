use Rattle.core_state.proofs.Outside.{refused_so}
use Rattle.core_state.proofs.laws.shortage_is_of_all.Goals as goal

pub returns : goal.returns
returns _ = λ w n s r good at e. refused_so w good n s at r e
