use Rattle.vol_spell.proofs.Viewing.{parts_stay}
use Rattle.vol_spell.proofs.laws.parts_stay.Goals as goal

pub returns : goal.returns
returns c = parts_stay
