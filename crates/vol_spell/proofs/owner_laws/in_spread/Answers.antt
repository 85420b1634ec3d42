use Rattle.vol_spell.proofs.Placing.{in_spread}
use Rattle.vol_spell.proofs.owner_laws.in_spread.Goals as goal

pub returns : goal.returns
returns c = in_spread
