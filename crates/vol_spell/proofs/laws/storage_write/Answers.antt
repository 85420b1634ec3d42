use Rattle.vol_spell.proofs.Keeping.{storage_write}
use Rattle.vol_spell.proofs.laws.storage_write.Goals as goal

pub returns : goal.returns
returns c = storage_write
