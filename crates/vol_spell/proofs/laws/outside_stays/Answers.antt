use Rattle.vol_spell.proofs.Viewing.{outside_stays}
use Rattle.vol_spell.proofs.laws.outside_stays.Goals as goal

pub returns : goal.returns
returns c = outside_stays
