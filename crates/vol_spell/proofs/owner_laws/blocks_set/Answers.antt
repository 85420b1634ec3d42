use Rattle.vol_spell.proofs.Placing.{blocks_set}
use Rattle.vol_spell.proofs.owner_laws.blocks_set.Goals as goal

pub returns : goal.returns
returns c = blocks_set
