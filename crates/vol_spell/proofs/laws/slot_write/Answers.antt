use Rattle.vol_spell.proofs.Keeping.{slot_write}
use Rattle.vol_spell.proofs.laws.slot_write.Goals as goal

pub returns : goal.returns
returns c = slot_write
