use Rattle.core_state.proofs.Uses.{uses_right}
use Rattle.core_state.proofs.laws.used_blocks_are_the_drives.Goals as goal

pub returns : goal.returns
returns _ = λ w n good lawful. uses_right w good n lawful
