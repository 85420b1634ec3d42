use Rattle.vol_spell.proofs.Placing.{spread_places}
use Rattle.vol_spell.proofs.owner_laws.spread_places.Goals as goal

pub returns : goal.returns
returns c = spread_places
