use Rattle.vol_spell.proofs.Placing.{blocks_stay}
use Rattle.vol_spell.proofs.owner_laws.blocks_stay.Goals as goal

pub returns : goal.returns
returns c = blocks_stay
