use Rattle.dlm_core.proofs.Answering.{all-answered}
use Rattle.dlm_core.proofs.laws.answers_are_true.Goals as goal

pub returns : goal.returns
returns c = all-answered
