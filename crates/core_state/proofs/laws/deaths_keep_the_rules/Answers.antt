use Rattle.core_state.proofs.Dying.{dies_keep}
use Rattle.core_state.proofs.laws.deaths_keep_the_rules.Goals as goal

pub returns : goal.returns
returns _ = λ w n good on. dies_keep w good n on
