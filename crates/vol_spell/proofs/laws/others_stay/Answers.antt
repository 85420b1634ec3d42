use Rattle.vol_spell.proofs.Viewing.{others_stay}
use Rattle.vol_spell.proofs.laws.others_stay.Goals as goal

pub returns : goal.returns
returns c = others_stay
