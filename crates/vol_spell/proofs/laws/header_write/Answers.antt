use Rattle.vol_spell.proofs.Keeping.{header_write}
use Rattle.vol_spell.proofs.laws.header_write.Goals as goal

pub returns : goal.returns
returns c = header_write
