use Rattle.vol_spell.proofs.Keeping.{index_write}
use Rattle.vol_spell.proofs.laws.index_write.Goals as goal

pub returns : goal.returns
returns c = index_write
