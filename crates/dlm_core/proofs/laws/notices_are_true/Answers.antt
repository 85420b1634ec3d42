use Rattle.dlm_core.proofs.Noticing.{all-noticed}
use Rattle.dlm_core.proofs.laws.notices_are_true.Goals as goal

pub returns : goal.returns
returns c = all-noticed
