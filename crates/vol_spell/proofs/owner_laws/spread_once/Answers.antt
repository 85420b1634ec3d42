use Rattle.vol_spell.proofs.Placing.{spread_once}
use Rattle.vol_spell.proofs.owner_laws.spread_once.Goals as goal

pub returns : goal.returns
returns c = spread_once
