use Rattle.vol_spell.proofs.Viewing.{quota_set}
use Rattle.vol_spell.proofs.laws.quota_set.Goals as goal

pub returns : goal.returns
returns c = quota_set
