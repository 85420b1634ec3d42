use Rattle.vol_spell.proofs.Heads.{told_stays}
use Rattle.vol_spell.proofs.laws.told_stays.Goals as goal

pub returns : goal.returns
returns c = told_stays
