use Rattle.vol_spell.proofs.Viewing.{storage_set}
use Rattle.vol_spell.proofs.laws.storage_set.Goals as goal

pub returns : goal.returns
returns c = storage_set
