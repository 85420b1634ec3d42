use Rattle.dlm_core.proofs.Truth.{all-together}
use Rattle.dlm_core.proofs.laws.beliefs_go_together.Goals as goal

pub returns : goal.returns
returns c = all-together
