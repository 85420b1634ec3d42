use Rattle.vol_spell.proofs.Viewing.{slot_set}
use Rattle.vol_spell.proofs.laws.slot_set.Goals as goal

pub returns : goal.returns
returns c = slot_set
