use Rattle.vol_spell.proofs.Viewing.{index_set}
use Rattle.vol_spell.proofs.laws.index_set.Goals as goal

pub returns : goal.returns
returns c = index_set
