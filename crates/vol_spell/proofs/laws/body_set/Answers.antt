use Rattle.vol_spell.proofs.Viewing.{body_set}
use Rattle.vol_spell.proofs.laws.body_set.Goals as goal

pub returns : goal.returns
returns c = body_set
