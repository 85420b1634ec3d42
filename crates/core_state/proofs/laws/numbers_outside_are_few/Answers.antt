use Rattle.core_state.proofs.OutsideNumbers.{numbers_few}
use Rattle.core_state.proofs.laws.numbers_outside_are_few.Goals as goal

pub returns : goal.returns
returns c = λ w n s good at. numbers_few w good n s at
