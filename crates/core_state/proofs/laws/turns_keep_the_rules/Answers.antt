use Rattle.core_state.proofs.Turns.{turn_keeps}
use Rattle.core_state.proofs.laws.turns_keep_the_rules.Goals as goal

pub returns : goal.returns
returns _ = λ w n good lawful. turn_keeps w good n lawful
