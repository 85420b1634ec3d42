use Rattle.dlm_core.proofs.Truth.{grants-true}
use Rattle.dlm_core.proofs.laws.grants_are_true.Goals as goal

pub returns : goal.returns
returns c = grants-true
