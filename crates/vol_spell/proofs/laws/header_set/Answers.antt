use Rattle.vol_spell.proofs.Viewing.{header_set}
use Rattle.vol_spell.proofs.laws.header_set.Goals as goal

pub returns : goal.returns
returns c = header_set
