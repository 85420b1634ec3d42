use Rattle.vol_spell.proofs.Keeping.{outside_write}
use Rattle.vol_spell.proofs.laws.outside_write.Goals as goal

pub returns : goal.returns
returns c = outside_write
