use Rattle.vol_spell.proofs.Placing.{blocks_joined}
use Rattle.vol_spell.proofs.owner_laws.blocks_joined.Goals as goal

pub returns : goal.returns
returns c = blocks_joined
