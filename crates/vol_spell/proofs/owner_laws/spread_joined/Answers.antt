use Rattle.vol_spell.proofs.Placing.{spread_joined}
use Rattle.vol_spell.proofs.owner_laws.spread_joined.Goals as goal

pub returns : goal.returns
returns c = spread_joined
