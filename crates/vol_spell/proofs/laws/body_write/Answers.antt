use Rattle.vol_spell.proofs.Keeping.{body_write}
use Rattle.vol_spell.proofs.laws.body_write.Goals as goal

pub returns : goal.returns
returns c = body_write
