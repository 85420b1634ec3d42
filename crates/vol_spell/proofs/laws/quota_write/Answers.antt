use Rattle.vol_spell.proofs.Keeping.{quota_write}
use Rattle.vol_spell.proofs.laws.quota_write.Goals as goal

pub returns : goal.returns
returns c = quota_write
