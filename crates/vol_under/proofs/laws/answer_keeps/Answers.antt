use Rattle.vol_under.proofs.Endings.{answer_keeps}
use Rattle.vol_under.proofs.laws.answer_keeps.Goals as goal

pub returns : goal.returns
returns c = answer_keeps
